-- A draft on its way through a list of copies.
use Rattle.sp_copies.specs.declared.made.MadeCopy.{MadeCopy}
use Rattle.sp_ending.proofs.Fits.{ends_fit, size_of_all}
use Rattle.sp_ending.proofs.Steps.{IsStep}
use Rattle.sp_ending.specs.Drafts.{DraftView, HasPlace, Reaches, no_draft}
use Rattle.sp_copies.proofs.Chosen.{Apart}
use Rattle.sp_ending.specs.Ends.{MayAll, MayEnd}
use Rattle.sp_event.specs.declared.answer.CopyFate.{CopyFate}
use Rattle.sp_ledger.proofs.Listed.{All-both, pairs_head, pairs_tail}
use Rattle.sp_ledger.proofs.OneByOne.{changed_append}
use Rattle.sp_ledger.specs.Changes.{Change, all_changed, changed}
use Rattle.sp_ledger.specs.Endings.{all_told, closed_by, one_by_one}
use Rattle.sp_ledger.specs.Ledger.{Ledger}
use Rattle.sp_txn.specs.Notes.{all_added, all_taken}
use Rattle.std.proofs.Common.{add-one, ap, arith, get_or, refl, subst, sym, ◌∙◌}
use Rattle.std.proofs.Math.Seq.{drop-cons}
use Rattle.std.proofs.lemmas.List.Elements.{All-head, All-tail, All-weaker}
use Rattle.std.proofs.lemmas.List.Sums.{sum_by-cons}
use Rattle.std.proofs.lemmas.List.{take_more}
use Rattle.std.specs.List.{cons_option}
use Rattle.std.specs.Prelude.{All, AllPairs, List, None, Option, Some, [], drop, length, take, ℕ}
use Rattle.std.specs.Prelude.{◌++◌, ◌+◌, ◌<◌, ◌^◌, ◌∷◌, ◌≡◌, ◌≤◌}

-- what is told of one change more
cons-append : (o : Option CopyFate) (xs ys : List CopyFate) → cons_option o (xs ++ ys) ≡ cons_option o xs ++ ys
cons-append None xs ys = refl
cons-append (Some x) xs ys = refl

told_more : (xs : List Change) (y : Change) (L : Ledger) →
    all_told (xs ++ y ∷ []) L ≡ all_told xs L ++ cons_option (closed_by y (all_changed xs L)) []
told_more [] y L = refl
told_more (x ∷ xs) y L =
    ap (λ (ts : List CopyFate). cons_option (closed_by x L) ts) (told_more xs y (changed x L))
    ∙ cons-append (closed_by x L) (all_told xs (changed x L))
    (cons_option (closed_by y (all_changed xs (changed x L))) [])

-- the ledger after the changes of some copies
abbrev pub after : (MadeCopy → Ledger → Change) → List MadeCopy → Ledger → Ledger
after change seen L = all_changed (one_by_one change seen L) L

one_more : (change : MadeCopy → Ledger → Change) (seen : List MadeCopy) (c : MadeCopy) (L : Ledger) →
    one_by_one change (seen ++ c ∷ []) L ≡ one_by_one change seen L ++ change c (after change seen L) ∷ []
one_more change [] c L = refl
one_more change (x ∷ xs) c L =
    ap (λ (cs : List Change). change x L ∷ cs) (one_more change xs c (changed (change x L) L))

after_more : (change : MadeCopy → Ledger → Change) (seen : List MadeCopy) (c : MadeCopy) (L : Ledger) →
    after change (seen ++ c ∷ []) L ≡ changed (change c (after change seen L)) (after change seen L)
after_more change seen c L =
    ap (λ (cs : List Change). all_changed cs L) (one_more change seen c L)
    ∙ changed_append (one_by_one change seen L) (change c (after change seen L) ∷ []) L

-- the changes are those of the copies that were seen, and the others may still come, with their bytes
pub record IsOnWay (change : MadeCopy → Ledger → Change) (May : Ledger → MadeCopy → Type 0) (L : Ledger)
    (seen left : List MadeCopy) (d : DraftView) : Type 0 where
  pub changes : d.changes ≡ one_by_one change seen L
  pub told : d.told ≡ all_told (one_by_one change seen L) L
  pub reaches : Reaches L (after change seen L) d
  pub each : All (May (after change seen L)) left
  pub apart : AllPairs Apart left
  pub fits : all_taken d.notes + size_of_all left ≤ 2 ^ 50
  pub added : all_added d.notes ≤ all_taken d.notes

pub sets_out : (change : MadeCopy → Ledger → Change) (May : Ledger → MadeCopy → Type 0) →
    ((K : Ledger) (c : MadeCopy) → May K c → MayEnd K c) → (L : Ledger) (list : List MadeCopy) → MayAll May list L →
    (next : ℕ) → next ≡ L.copies.next → IsOnWay change May L [] list (no_draft next)
sets_out change May ends L list may next is = record {
  changes = refl;
  told = refl;
  reaches = record {
    endpoints = refl;
    messages = refl;
    attempts = λ copy. refl;
    used = λ endpoint. refl;
    next = is;
    sound = may.sound;
  };
  each = may.each;
  apart = may.apart;
  fits = let few = ends_fit L may.sound list (All-weaker (May L) (MayEnd L) (ends L) list may.each) may.apart in
      omega (arith, few);
  added = omega arith;
}

module _ (change : MadeCopy → Ledger → Change) (May : Ledger → MadeCopy → Type 0)
    (draft : MadeCopy → Ledger → DraftView → DraftView) (step : IsStep change May draft) (L : Ledger) where
  one_further : (seen : List MadeCopy) (c : MadeCopy) (left : List MadeCopy) (d : DraftView) →
      IsOnWay change May L seen (c ∷ left) d →
      IsOnWay change May L (seen ++ c ∷ []) left (draft c (after change seen L) d)
  one_further seen c left d way =
      let K = after change seen L in
      let here = All-head (May (after change seen L)) c left way.each in
      let more = one_more change seen c L in
      let to = after_more change seen c L in
      let adds = step.adds (after change seen L) d c in
      let told = closed_by (change c (after change seen L)) (after change seen L) in
      record {
        changes = step.changes (after change seen L) d c
            ∙ (ap (λ (cs : List Change). cs ++ change c (after change seen L) ∷ []) way.changes ∙ sym more);
        told = step.told (after change seen L) d c way.reaches.next
            ∙ (ap (λ (ts : List CopyFate). ts ++ cons_option told []) way.told
            ∙ (sym (told_more (one_by_one change seen L) (change c (after change seen L)) L)
            ∙ ap (λ (cs : List Change). all_told cs L) (sym more)));
        reaches = subst (λ (M : Ledger). Reaches L M (draft c (after change seen L) d)) (sym to)
            (step.reaches L (after change seen L) d way.reaches c here);
        each = subst (λ (M : Ledger). All (May M) left) (sym to)
            (All-weaker (λ (x : MadeCopy). Apart c x × May (after change seen L) x)
            (May (changed (change c (after change seen L)) (after change seen L)))
            (λ x both. step.stays (after change seen L) c x both.0 both.1) left
            (All-both (Apart c) (May (after change seen L)) left (pairs_head Apart c left way.apart)
            (All-tail (May (after change seen L)) c left way.each)));
        apart = pairs_tail Apart c left way.apart;
        fits =
            let all = sum_by-cons {X = MadeCopy} (λ x. x.size) c left in
            let before = way.fits in
            let grown = adds.taken in
            omega (arith, all, before, grown);
        added = adds.added way.added;
      }

  module _ (list : List MadeCopy) (i : ℕ) (x : MadeCopy) (lt : i < length list) (d : DraftView)
      (way : IsOnWay change May L (take i list) (drop i list) d) where
    rest : drop i list ≡ get_or list i x ∷ drop (i + 1) list
    rest = drop-cons list i x lt ∙ ap (λ (k : ℕ). get_or list i x ∷ drop k list) (sym (add-one i))

    way_here : IsOnWay change May L (take i list) (get_or list i x ∷ drop (i + 1) list) d
    way_here = subst (λ (cs : List MadeCopy). IsOnWay change May L (take i list) cs d) rest way

    -- the next copy may come, and its bytes have a place
    pub next_may : May (after change (take i list) L) (get_or list i x)
    next_may = All-head (May (after change (take i list) L)) (get_or list i x) (drop (i + 1) list) way_here.each

    pub next_fits : HasPlace (get_or list i x) d
    next_fits = record {
      taken =
          let all = sum_by-cons {X = MadeCopy} (λ y. y.size) (get_or list i x) (drop (i + 1) list) in
          let before = way_here.fits in
          omega (arith, all, before);
      added = way.added;
    }

    -- and then it is on its way through the others
    pub goes_on : (new : DraftView) → new ≡ draft (get_or list i x) (after change (take i list) L) d →
        IsOnWay change May L (take (i + 1) list) (drop (i + 1) list) new
    goes_on new is =
        subst (λ (e : DraftView). IsOnWay change May L (take (i + 1) list) (drop (i + 1) list) e) (sym is)
        (subst (λ (cs : List MadeCopy). IsOnWay change May L cs (drop (i + 1) list)
        (draft (get_or list i x) (after change (take i list) L) d)) (sym (take_more list i x lt))
        (one_further (take i list) (get_or list i x) (drop (i + 1) list) d way_here))
