-- One state of an object after another.
use Rattle.std.proofs.Common.{◌≡◌, ℕ, ◌+◌, ◌<◌, ◌≤◌, List, [], ◌∷◌, ◌++◌, length, Bool, refl, sym, ap, ◌∙◌, subst, arith, Option, Some, None, IfSome, append_assoc, append-nil, if◌then◌else◌, max}
use Rattle.std.proofs.lemmas.Bool.{le-leb, lt-leb}
use mathlib.Core.Logic.{dite}
use native.Mathlib.Decide.{dec_le}
use Rattle.sp_hall.specs.States.{Begins, IsCounted, Leads, longer_of, shorter_of, both_of}
use Rattle.sp_hall.specs.declared.object.Shown.{Shown}

module _ {E : Type 0} where
  pub begins_refl : (a : Option (List E)) → Begins a a
  begins_refl None = tt
  begins_refl (Some a) = ([], sym (append-nil a))

  pub begins_trans : (a b c : Option (List E)) → Begins a b → Begins b c → Begins a c
  begins_trans None None None x y = tt
  begins_trans None None (Some c) x y = y
  begins_trans None (Some b) c x y = absurd x
  begins_trans (Some a) None c x y = absurd x
  begins_trans (Some a) (Some b) None x y = y
  begins_trans (Some a) (Some b) (Some c) x y = (y.0 ++ x.0, x.1 ∙ ap (λ l. l ++ x.0) y.1 ∙ append_assoc c y.0 x.0)

  -- of two beginnings of one list the shorter begins the longer
  begins_longer : (n a b : List E) → Begins (Some n) (Some a) → Begins (Some n) (Some b) → length a ≤ length b → Begins (Some b) (Some a)
  begins_longer n [] b x y le = (b, refl)
  begins_longer n (p ∷ a) [] x y le = absurd (omega arith)
  begins_longer [] (p ∷ a) (q ∷ b) x y le = let e = x.1 in absurd (cc)
  begins_longer (m ∷ n) (p ∷ a) (q ∷ b) x y le =
      let ex = x.1 in
      let ey = y.1 in
      let ta : n ≡ a ++ x.0 = cc in
      let tb : n ≡ b ++ y.0 = cc in
      let hd : q ≡ p = cc in
      let r = begins_longer n a b (x.0, ta) (y.0, tb) (omega arith) in
      (r.0, λ i. hd i ∷ r.1 i)

  -- the longer and the shorter of two lists
  by_length : (P : Option (List E) → Option (List E) → Type 0) (a b : List E) → (length a ≤ length b → P (Some b) (Some a)) → (length b < length a → P (Some a) (Some b))
      → P (longer_of (Some a) (Some b)) (shorter_of (Some a) (Some b))
  by_length P a b le gt = dite (dec_le (length a) (length b))
      (λ h. subst (λ (t : Bool). P (if t then Some b else Some a) (if t then Some a else Some b)) (sym (le-leb (length a) (length b) h)) (le h))
      (λ h. let lt : length b < length a = omega arith in subst (λ (t : Bool). P (if t then Some b else Some a) (if t then Some a else Some b)) (sym (lt-leb (length a) (length b) lt)) (gt lt))

  pub begins_longer_of : (n a b : Option (List E)) → Begins n a → Begins n b → Begins n (longer_of a b)
  begins_longer_of n None b x y = y
  begins_longer_of n (Some a) None x y = x
  begins_longer_of n (Some a) (Some b) x y = by_length (λ l s. Begins n l) a b (λ _. y) (λ _. x)

  pub longer_begins : (n a b : Option (List E)) → Begins n a → Begins n b → Begins (longer_of a b) (shorter_of a b)
  longer_begins None None None x y = tt
  longer_begins None None (Some b) x y = y
  longer_begins None (Some a) b x y = absurd x
  longer_begins (Some n) None b x y = absurd x
  longer_begins (Some n) (Some a) None x y = absurd y
  longer_begins (Some n) (Some a) (Some b) x y = by_length (λ l s. Begins l s) a b (λ le. begins_longer n a b x y le) (λ lt. begins_longer n b a y x (omega arith))

  -- where the longer begins with the shorter, it begins with both
  pub longer_begins_both : (a b : Option (List E)) → Begins (longer_of a b) (shorter_of a b) → Begins (longer_of a b) a × Begins (longer_of a b) b
  longer_begins_both None None x = (tt, tt)
  longer_begins_both None (Some b) x = absurd x
  longer_begins_both (Some a) None x = absurd x
  longer_begins_both (Some a) (Some b) x = by_length (λ l s. Begins l s → Begins l (Some a) × Begins l (Some b)) a b
      (λ le y. (y, begins_refl (Some b)))
      (λ lt y. (begins_refl (Some a), y))
      x

  counts_longer : (a b : Option (List E)) (f c d : ℕ) → IfSome a (λ l. c ≡ f + length l) → IfSome b (λ l. d ≡ f + length l) → Begins (longer_of a b) (shorter_of a b)
      → IfSome (longer_of a b) (λ l. max c d ≡ f + length l)
  counts_longer None None f c d x y h = tt
  counts_longer None (Some b) f c d x y h = absurd h
  counts_longer (Some a) None f c d x y h = absurd h
  counts_longer (Some a) (Some b) f c d x y h = by_length (λ l s. IfSome l (λ k. max c d ≡ f + length k)) a b (λ le. omega arith) (λ lt. omega arith)

max_le : (a b c : ℕ) → a ≤ c → b ≤ c → max a b ≤ c
max_le a b c x y = omega arith

module _ {E S : Type 0} where
  pub leads_refl : (a : Shown E S) → Leads a a
  leads_refl a = record { count = omega arith; faults = omega arith; list = begins_refl a.list; first = refl; start = refl }

  pub leads_trans : (a b c : Shown E S) → Leads a b → Leads b c → Leads a c
  leads_trans a b c x y =
      record {
        count = let p = x.count in let q = y.count in omega arith;
        faults = let p = x.faults in let q = y.faults in omega arith;
        list = begins_trans c.list b.list a.list y.list x.list;
        first = y.first ∙ x.first;
        start = y.start ∙ x.start;
      }

  pub both_before : (a b n : Shown E S) → Leads a n → Leads b n → Leads (both_of a b) n
  both_before a b n x y =
      record {
        count = max_le a.count b.count n.count x.count y.count;
        faults = max_le a.faults b.faults n.faults x.faults y.faults;
        list = begins_longer_of n.list a.list b.list x.list y.list;
        first = x.first;
        start = x.start;
      }

  -- two states of one object, of which the longer list begins with the shorter
  pub both_after : (opened a b : Shown E S) → Leads opened a → Leads opened b → Begins (longer_of a.list b.list) (shorter_of a.list b.list)
      → Leads opened (both_of a b) × Leads a (both_of a b) × Leads b (both_of a b)
  both_after opened a b x y h =
      let begins = longer_begins_both a.list b.list h in
      let p = x.count in
      let q = x.faults in (
        record {
          count = omega arith;
          faults = omega arith;
          list = begins_trans (longer_of a.list b.list) a.list opened.list begins.0 x.list;
          first = x.first;
          start = x.start;
        },
        record { count = omega arith; faults = omega arith; list = begins.0; first = refl; start = refl },
        record { count = omega arith; faults = omega arith; list = begins.1; first = x.first ∙ sym y.first; start = x.start ∙ sym y.start },
      )

  pub both_counted : (a b : Shown E S) → a.first ≡ b.first → IsCounted a → IsCounted b → Begins (longer_of a.list b.list) (shorter_of a.list b.list) → IsCounted (both_of a b)
  both_counted a b same x y h = counts_longer a.list b.list a.first a.count b.count x (subst (λ (f : ℕ). IfSome b.list (λ l. b.count ≡ f + length l)) (sym same) y) h
