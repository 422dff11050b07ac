-- Passes are taken into one, the last of the list first.
use Rattle.std.proofs.Common.{◌≡◌, ◌+◌, List, [], ◌∷◌, ◌++◌, refl, sym, ap, ◌∙◌, subst, arith, All, sum_by, append-nil, append_assoc}
use Rattle.std.proofs.lemmas.List.Elements.{All-nil, All-cons, All-head, All-tail, All-append}
use Rattle.std.proofs.lemmas.List.Sums.{sum_by-append, sum_by-cons}
use Rattle.sp_hall.specs.Halls.{HallId}
use Rattle.sp_hall.specs.Passes.{Known, met_pass}
use Rattle.sp_hall.specs.States.{Leads}
use Rattle.sp_hall.specs.declared.object.Shown.{Shown}
use Rattle.sp_hall.proofs.Later.{leads_refl, leads_trans}

-- what holds of each of a list holds of all but its last, and of its last
all_split : {A : Type 0} (P : A → Type 0) (rest : List A) (last : A) → All P (rest ++ last ∷ []) → All P rest × P last
all_split P [] last all = (All-nil P, All-head P last [] all)
all_split P (x ∷ xs) last all =
    let r = all_split P xs last (All-tail P x (xs ++ last ∷ []) all) in
    (All-cons P x xs (All-head P x (xs ++ last ∷ []) all) r.0, r.1)

pub all_but_last : {A : Type 0} (P : A → Type 0) (all rest : List A) (last : A) → all ≡ rest ++ last ∷ [] → All P all → All P rest × P last
all_but_last P all rest last is h = all_split P rest last (subst (All P) is h)

module _ {E S : Type 0} where
  -- a pass that has taken in all passes but those left
  pub record Gathers (hall : HallId E S) (first : Known E S) (all : List (Known E S)) (pass : Known E S) (left : List (Known E S)) : Type 0 where
    pub hall_is : pass.hall ≡ hall
    pub others : All (λ (p : Known E S). p.hall ≡ hall) left
    pub parts : pass.parts + sum_by (λ p. p.parts) left ≡ first.parts + sum_by (λ p. p.parts) all
    pub made : pass.made + sum_by (λ p. p.made) left ≡ first.made + sum_by (λ p. p.made) all
    pub later : Leads first.seen pass.seen
    pub done : List (Known E S)
    pub split : all ≡ left ++ done
    pub seen : All (λ (p : Known E S). Leads p.seen pass.seen) done

  pub gathers_none : (hall : HallId E S) (first : Known E S) (all : List (Known E S)) → first.hall ≡ hall → All (λ (p : Known E S). p.hall ≡ hall) all → Gathers hall first all first all
  gathers_none hall first all same others =
      record {
        hall_is = same;
        others = others;
        parts = refl;
        made = refl;
        later = leads_refl first.seen;
        done = [];
        split = sym (append-nil all);
        seen = All-nil (λ (p : Known E S). Leads p.seen first.seen);
      }

  seen_later : (a b : Shown E S) (done : List (Known E S)) → Leads a b → All (λ (p : Known E S). Leads p.seen a) done → All (λ (p : Known E S). Leads p.seen b) done
  seen_later a b done h seen k d le = leads_trans _ a b (seen k d le) h

  pub gathers_more : (hall : HallId E S) (first : Known E S) (all : List (Known E S)) (pass : Known E S) (left rest : List (Known E S)) (other : Known E S)
      → Gathers hall first all pass left → left ≡ rest ++ other ∷ [] → Leads pass.seen (met_pass pass other).seen → Leads other.seen (met_pass pass other).seen
      → Gathers hall first all (met_pass pass other) rest
  gathers_more hall first all pass left rest other h is mine theirs =
      record {
        hall_is = h.hall_is;
        others = (all_but_last (λ (p : Known E S). p.hall ≡ hall) left rest other is h.others).0;
        parts = let a = h.parts in let b = ap (sum_by (λ (p : Known E S). p.parts)) is in omega (arith, sum_by-append (λ (p : Known E S). p.parts) rest (other ∷ []), sum_by-cons (λ (p : Known E S). p.parts) other []);
        made = let a = h.made in let b = ap (sum_by (λ (p : Known E S). p.made)) is in omega (arith, sum_by-append (λ (p : Known E S). p.made) rest (other ∷ []), sum_by-cons (λ (p : Known E S). p.made) other []);
        later = leads_trans first.seen pass.seen (met_pass pass other).seen h.later mine;
        done = other ∷ h.done;
        split = h.split ∙ ap (λ l. l ++ h.done) is ∙ append_assoc rest (other ∷ []) h.done;
        seen = All-cons (λ (p : Known E S). Leads p.seen (met_pass pass other).seen) other h.done theirs (seen_later pass.seen (met_pass pass other).seen h.done mine h.seen);
      }

  -- the last of some passes, and the others
  pub all_seen : (passes rest : List (Known E S)) (last : Known E S) (a b : Shown E S) → passes ≡ rest ++ last ∷ [] → Leads last.seen a → All (λ (p : Known E S). Leads p.seen a) rest → Leads a b
      → All (λ (p : Known E S). Leads p.seen b) passes
  all_seen passes rest last a b is mine others h =
      subst (All (λ (p : Known E S). Leads p.seen b)) (sym is)
      (All-append (λ (p : Known E S). Leads p.seen b) rest (last ∷ [])
      (seen_later a b rest h others)
      (All-cons (λ (p : Known E S). Leads p.seen b) last [] (leads_trans last.seen a b mine h) (All-nil (λ (p : Known E S). Leads p.seen b))))
