-- What the steps of a birth leave.
use Rattle.std.proofs.Common.{◌≡◌, ℕ, ◌≤◌, List, [], ◌∷◌, ◌++◌, length, take, drop, get_or, refl, sym, ap, ◌∙◌, subst, inl, inr, arith}
use Rattle.std.proofs.lemmas.List.{drop_all, append-nil}
use Rattle.std.proofs.lemmas.Bool.{cases_eq}
use Rattle.sp_disk.specs.Disk.{Torn, written}
use Rattle.sp_disk.proofs.Tears.{torn_front, torn_byte, written_byte}
use Rattle.sp_journal.specs.Birth.{IsBlank, IsNamed}
use Rattle.sp_journal.specs.Closing.{MayClose}
use Rattle.sp_journal.specs.Format.{heading, IsUnborn, EndsAt, HasUnits}
use Rattle.sp_journal.specs.Unsure.{KeepsUnits}

-- what keeps its units twice keeps them
pub keeps_on : (a b c : List ℕ) → KeepsUnits a b → KeepsUnits b c → KeepsUnits a c
keeps_on a b c (inl same) second = subst (λ (l : List ℕ). KeepsUnits l c) same second
keeps_on a b c (inr unborn) (inl same) = inr (unborn.0, subst (HasUnits []) (sym same) unborn.1)
keeps_on a b c (inr unborn) (inr again) = inr (unborn.0, again.1)

-- closing the birth gate of an unborn file leaves it unborn
pub unborn_closing : (reads old new : List ℕ) → IsUnborn old → MayClose 0 reads old new → IsUnborn new
unborn_closing reads old new unborn (inl same) = subst IsUnborn (sym same) unborn
unborn_closing reads old new (inl short) (inr torn) = inl (omega (arith, torn.2.no_longer, short))
unborn_closing reads old new (inr at_end) (inr torn) = absurd (torn.1 at_end.1)

pub unborn_keeps : (reads old new : List ℕ) → IsUnborn reads → MayClose 0 reads old new → KeepsUnits old new
unborn_keeps reads old new unborn (inl same) = inl same
unborn_keeps reads old new unborn (inr torn) =
    let was : IsUnborn old = subst IsUnborn (sym torn.0) unborn in
    inr (was, inl (refl, unborn_closing reads old new was (inr torn)))

-- and once it is closed the file is blank
pub unborn_closed : (old new : List ℕ) → IsUnborn old → new ≡ written old 0 (0 ∷ []) → IsBlank new
unborn_closed old new unborn done = (short unborn, ap (λ (l : List ℕ). take 1 l) done)
  where
    shut : (file : List ℕ) → length file ≤ 14 → length (written file 0 (0 ∷ [])) ≤ 14
    shut [] le = omega (arith, le)
    shut (b ∷ file) le = omega (arith, le)

    short : IsUnborn old → length new ≤ 14
    short (inl less) = let le = shut old (omega (arith, less)) in omega (arith, le, ap length done)
    short (inr at_end) = let le = shut old (omega (arith, at_end.0)) in omega (arith, le, ap length done)

pub blank_unborn : (file : List ℕ) → IsBlank file → IsUnborn file
blank_unborn file blank = elim (cases_eq (length file) 14) [
  | inl is ↦ inr (is, blank.1)
  | inr not ↦ inl (omega (arith, blank.0, not))
]

-- behind the closed birth gate anything may stand
pub blank_torn : (old new : List ℕ) → IsBlank old → Torn 1 13 old new → IsBlank new
blank_torn [] new blank torn = absurd (cc (blank.1))
blank_torn (b ∷ old) new blank torn =
    (omega (arith, blank.0, torn.no_longer), torn_front 1 13 (b ∷ old) new (omega arith) torn ∙ blank.1)

pub blank_keeps : (old new : List ℕ) → IsBlank old → Torn 1 13 old new → KeepsUnits old new
blank_keeps old new blank torn =
    inr (blank_unborn old blank, inl (refl, blank_unborn new (blank_torn old new blank torn)))

pub blank_written : (old new : List ℕ) → IsBlank old → new ≡ written old 1 (heading ++ 0 ∷ []) → IsNamed new
blank_written [] new blank done = absurd (cc (blank.1))
blank_written (b ∷ old) new blank done =
    let ended : drop 13 old ≡ [] = drop_all 13 old (omega (arith, blank.0)) in
    let first : b ∷ [] ≡ 0 ∷ [] = blank.1 in
    let shut : b ≡ 0 = cc in
    done
    ∙ ap (λ (l : List ℕ). b ∷ (heading ++ 0 ∷ []) ++ l) ended
    ∙ append-nil (b ∷ (heading ++ 0 ∷ []))
    ∙ ap (λ (n : ℕ). n ∷ (heading ++ 0 ∷ [])) shut

-- the birth gate alone is open or closed
module _ (gate : ℕ) (file : List ℕ) (is : file ≡ gate ∷ (heading ++ 0 ∷ [])) where
  born_empty : (gate ≡ 0 → ⊥) → EndsAt [] 13 file
  born_empty shown = record {
    front = gate ∷ heading;
    behind = [];
    is_front = record { birth = gate; tail = []; born = shown; bytes = refl; are_units = refl };
    is_place = refl;
    bytes = is;
  }

  not_born : gate ≡ 0 → IsUnborn file
  not_born shut = inr (ap length is, ap (λ (l : List ℕ). take 1 l) is ∙ ap (λ (n : ℕ). n ∷ []) shut)

  none : HasUnits [] file
  none = elim (cases_eq gate 0) [ inl shut ↦ inl (refl, not_born shut) | inr shown ↦ inr (13, born_empty shown) ]

pub named_units : (old new : List ℕ) → IsNamed old → Torn 0 1 old new → HasUnits [] new
named_units old new named torn =
    none (get_or new 0 0) new
    (torn_byte [] 0 (heading ++ 0 ∷ []) 0 refl new (subst (λ (l : List ℕ). Torn 0 1 l new) named torn))

pub named_keeps : (old new : List ℕ) → IsNamed old → Torn 0 1 old new → KeepsUnits old new
named_keeps old new named torn = inr (not_born 0 old named refl, named_units old new named torn)

pub named_written : (old new : List ℕ) → IsNamed old → new ≡ written old 0 (1 ∷ []) → EndsAt [] 13 new
named_written old new named done =
    born_empty 1 new
    (done ∙ ap (λ (l : List ℕ). written l 0 (1 ∷ [])) named ∙ written_byte [] 0 (heading ++ 0 ∷ []) 0 refl 1)
    (λ is. (cc))
