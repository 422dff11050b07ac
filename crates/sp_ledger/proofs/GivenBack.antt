-- What a flow gives back it holds no more.
use Rattle.sp_copies.proofs.Marks.{eqb-turned}
use Rattle.sp_copies.specs.History.{History, all_held, held_by, held_copies, is_held, is_held_by, is_made, is_spooled, let_go, with_given_back}
use Rattle.sp_copies.specs.Sound.{IsSoundHistory}
use Rattle.sp_copies.specs.declared.held.HeldCopy.{HeldCopy}
use Rattle.sp_copies.specs.declared.made.MadeCopy.{MadeCopy}
use Rattle.sp_ledger.proofs.Listed.{list_any-map, All-both, All-kept, and_both, and_left, any_kept}
use Rattle.sp_ledger.proofs.Listed.{any_self, any_weaker, not_true, pairs_head, pairs_tail}
use Rattle.std.proofs.Common.{ap, arith, refl, subst, sym, ◌∙◌}
use Rattle.std.proofs.lemmas.Bool.{eq-eqb, eqb-true}
use Rattle.std.proofs.lemmas.List.Elements.{All-filter, All-head, All-map, All-weaker}
use Rattle.std.proofs.lemmas.List.Kept.{AllPairs-cons, AllPairs-filter}
use Rattle.std.specs.List.{list_any}
use Rattle.std.specs.Prelude.{All, AllPairs, Bool, IsTrue, List, [], false, filter, fold, map, not, true}
use Rattle.std.specs.Prelude.{ℕ, ◌&&◌, ◌==◌, ◌||◌}
use Rattle.std.specs.Prelude.{◌<◌, ◌∷◌, ◌≡◌}

-- flows let go of copies, one after another
abbrev pub all_let_go : List MadeCopy → List HeldCopy → List HeldCopy
all_let_go [] held = held
all_let_go (c ∷ cs) held = all_let_go cs (let_go c.number held)

-- the numbers of copies
abbrev pub numbers : List MadeCopy → List ℕ
numbers cs = map (λ c. c.number) cs

-- whether a copy is among some
abbrev pub is_among : List ℕ → ℕ → Bool
is_among cs copy = list_any (λ c. c == copy) cs

-- what is still held was held before, and isn't among what was let go
pub still_held : (P : HeldCopy → Type 0) (cs : List MadeCopy) (held : List HeldCopy) → All P held →
    All (λ h. P h × (is_among (numbers cs) h.copy ≡ false)) (all_let_go cs held)
still_held P [] held all =
    All-weaker P (λ (h : HeldCopy). P h × (is_among [] h.copy ≡ false)) (λ h p. (p, refl)) held all
still_held P (c ∷ cs) held all =
    All-weaker (λ (h : HeldCopy). (P h × IsTrue (not (h.copy == c.number))) × (is_among (numbers cs) h.copy ≡ false))
    (λ (h : HeldCopy). P h × (is_among (numbers (c ∷ cs)) h.copy ≡ false))
    (λ h p. (p.0.0, apart h p.0.1 p.1)) (all_let_go cs (let_go c.number held))
    (still_held (λ (h : HeldCopy). P h × IsTrue (not (h.copy == c.number))) cs (let_go c.number held) kept)
  where
    kept : All (λ (h : HeldCopy). P h × IsTrue (not (h.copy == c.number))) (let_go c.number held)
    kept = All-both P (λ (h : HeldCopy). IsTrue (not (h.copy == c.number))) (let_go c.number held)
        (All-filter (λ (h : HeldCopy). not (h.copy == c.number)) P held all)
        (All-kept {X = HeldCopy} (λ h. not (h.copy == c.number)) held)

    apart : (h : HeldCopy) → IsTrue (not (h.copy == c.number)) → is_among (numbers cs) h.copy ≡ false →
        ((c.number == h.copy) || is_among (numbers cs) h.copy) ≡ false
    apart h other rest = ap (λ x. x || is_among (numbers cs) h.copy)
        (eqb-turned c.number h.copy ∙ not_true (h.copy == c.number) other) ∙ rest

-- what is found by its number is kept by a test that it passes
kept_number : (k : ℕ) (p : MadeCopy → Bool) → ((c : MadeCopy) → (c.number == k) ≡ true → p c ≡ true) →
    (cs : List MadeCopy) → list_any (λ c. c.number == k) cs ≡ true →
    is_among (map (λ c. c.number) (filter p cs)) k ≡ true
kept_number k p w cs h =
    list_any-map {X = MadeCopy} (λ n. n == k) (λ c. c.number) (filter p cs) ∙ any_kept {X = MadeCopy}
    (λ c. c.number == k) p w cs h

-- each copy that a flow holds is among those that it gives back
pub holds_all : (H : History) (flow : ℕ) → IsSoundHistory H →
    All (λ h. (h.flow == flow) ≡ true → is_among (held_by H flow) h.copy ≡ true) H.held
holds_all H flow s =
    All-weaker (λ (h : HeldCopy). IsTrue
    (is_spooled H h.copy)
    × ((((h.copy == h.copy) && (h.flow == flow)) ≡ true) → is_held_by H.held flow h.copy ≡ true))
    (λ (h : HeldCopy). (h.flow == flow) ≡ true → is_among (held_by H flow) h.copy ≡ true)
    (λ h p mine.
    let by : is_held_by H.held flow h.copy ≡ true =
    p.1 (and_both (h.copy == h.copy) _ (eq-eqb h.copy h.copy refl) mine) in
    kept_number h.copy (λ c. is_held_by H.held flow c.number)
    (λ c e. subst (λ k. is_held_by H.held flow k ≡ true) (sym (eqb-true _ _ e)) by) H.made
    (and_left (is_made H.made h.copy) _ p.0))
    H.held
    (All-both (λ (h : HeldCopy). IsTrue (is_spooled H h.copy))
    (λ (h : HeldCopy). ((h.copy == h.copy) && (h.flow == flow)) ≡ true → is_held_by H.held flow h.copy ≡ true)
    H.held s.held_spooled (any_self {X = HeldCopy} (λ h x. (x.copy == h.copy) && (x.flow == flow)) H.held))

-- a flow that lets go of all that it held holds nothing
pub none_held : (H : History) (flow : ℕ) → IsSoundHistory H →
    All (λ h. (h.flow == flow) ≡ false) (all_let_go (held_copies H flow) H.held)
none_held H flow s =
    All-weaker (λ (h : HeldCopy). ((h.flow == flow) ≡ true → is_among (held_by H flow) h.copy ≡ true)
    × (is_among (held_by H flow) h.copy ≡ false)) (λ (h : HeldCopy). (h.flow == flow) ≡ false)
    (λ h p. others h p.0 p.1 (h.flow == flow) refl) (all_let_go (held_copies H flow) H.held)
    (still_held (λ (h : HeldCopy). (h.flow == flow) ≡ true → is_among (held_by H flow) h.copy ≡ true)
    (held_copies H flow) H.held (holds_all H flow s))
  where
    others : (h : HeldCopy) → ((h.flow == flow) ≡ true → is_among (held_by H flow) h.copy ≡ true) →
        is_among (held_by H flow) h.copy ≡ false → (b : Bool) → (h.flow == flow) ≡ b → (h.flow == flow) ≡ false
    others h mine away false is = is
    others h mine away true is = absurd (let in_it = mine is in cc)

-- each held copy is among all that are held
held_among_all : (H : History) → IsSoundHistory H → All (λ h. is_among (numbers (all_held H)) h.copy ≡ true) H.held
held_among_all H s =
    All-weaker (λ (h : HeldCopy). IsTrue (is_spooled H h.copy)
    × ((h.copy == h.copy) ≡ true → is_held H.held h.copy ≡ true))
    (λ (h : HeldCopy). is_among (numbers (all_held H)) h.copy ≡ true)
    (λ h p.
    kept_number h.copy (λ c. is_held H.held c.number)
    (λ c e. subst (λ k. is_held H.held k ≡ true) (sym (eqb-true _ _ e)) (p.1 (eq-eqb h.copy h.copy refl))) H.made
    (and_left (is_made H.made h.copy) _ p.0))
    H.held
    (All-both (λ (h : HeldCopy). IsTrue (is_spooled H h.copy))
    (λ (h : HeldCopy). (h.copy == h.copy) ≡ true → is_held H.held h.copy ≡ true)
    H.held s.held_spooled (any_self {X = HeldCopy} (λ h x. x.copy == h.copy) H.held))

-- flows that let go of all that they held hold nothing
pub all_gone : (H : History) → IsSoundHistory H → all_let_go (all_held H) H.held ≡ []
all_gone H s =
    none_there (all_let_go (all_held H) H.held)
    (still_held (λ (h : HeldCopy). is_among (numbers (all_held H)) h.copy ≡ true) (all_held H) H.held
    (held_among_all H s))
  where
    none_there : (hs : List HeldCopy) →
        All (λ h. (is_among (numbers (all_held H)) h.copy ≡ true) × (is_among (numbers (all_held H)) h.copy ≡ false)) hs →
        hs ≡ []
    none_there [] all = refl
    none_there (h ∷ hs) all = absurd (let both = All-head (λ (x : HeldCopy).
        (is_among (numbers (all_held H)) x.copy ≡ true) × (is_among (numbers (all_held H)) x.copy ≡ false)) h hs all in
        let yes = both.0 in let no_more = both.1 in cc)
