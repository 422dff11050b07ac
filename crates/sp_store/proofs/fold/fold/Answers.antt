use Rattle.std.proofs.Common.{◌≡◌, ◌∙◌, ◌++◌, ◌∷◌, [], ℕ, List, Bool, Option, Result, Some, None, Ok, Err, inr, refl, ap, subst, sym, arith}
use Rattle.std.specs.Prelude.{IfOk}
use Rattle.sp_disk.specs.declared.disk.File.TheVariants.{Journal as JournalFile}
use Rattle.sp_disk.proofs.LookedLemmas.{looked_not, reads_same, then, told_still}
use Rattle.sp_journal.specs.Damage.{StopsAt}
use Rattle.sp_journal.specs.Format.{ComesTo}
use Rattle.sp_journal.specs.declared.journal.OpenError.{OpenError}
use Rattle.sp_journal.specs.declared.journal.OpenError.TheVariants.{Damaged}
use Rattle.sp_ledger.specs.Asked.{first_ledger}
use Rattle.sp_store.proofs.Ledgers.{leads_on}
use Rattle.sp_store.proofs.Walks.{walk_damaged, walk_ends, walk_on, walk_refused}
use Rattle.sp_store.specs.Parts.{GivesOne, TakesIn}
use Rattle.sp_unit.specs.UnitBytes.{UnitView}
use Rattle.sp_store.proofs.fold.fold.Goals as goal

pub units-init : goal.units-init
units-init g c = record {
  looked = looked_not g.D.Disk.tells g.D.Disk.content g.D.Disk.may_leave g.D.Disk.moment g.D.Disk.left_since
      g.met.D.Disk.only_now c.args.disk.now;
  faults = omega arith;
  so_far = ([], first_ledger, refl, c.in-Ok.ensures, λ none. refl, c.requires.first);
}

pub returns-in-Err-clause-damaged : goal.returns-in-Err-clause-damaged
returns-in-Err-clause-damaged g c told file at same =
    let inv = c.units.invariant in
    let sf = inv.so_far in
    let here = g.D.Disk.content c.args.disk.now JournalFile in
    let reads = reads_same g.D.Disk.tells g.D.Disk.content g.D.Disk.may_leave g.D.Disk.moment g.D.Disk.left_since
    c.args.disk.now c.units.disk inv.looked JournalFile in
    let still = told_still g.D.Disk.tells g.D.Disk.content g.D.Disk.may_leave g.D.Disk.moment g.D.Disk.left_since
    c.args.disk.now c.units.disk inv.looked told in
    let error : c.in-Err.error ≡ Damaged file at = cc in
    walk_damaged c.args.journal.now sf.0 c.units.at here c.unit_at.result c.unit_at.ensures.unborn
    (λ born f p is.
    let d = c.unit_at.ensures.damaged still born sf.0 (subst (ComesTo sf.0 c.units.at) (sym reads) (sf.5 told born)) f p is in
    (d.0, d.1, subst (StopsAt sf.0 c.units.at) reads d.2)) file at
    (c.in-Err.is ∙ ap (λ (e : OpenError). Err e) error)

pub returns-in-Ok-None-clause-ledger : goal.returns-in-Ok-None-clause-ledger
returns-in-Ok-None-clause-ledger g c =
    let inv = c.units.invariant in
    let sf = inv.so_far in
    let here = g.D.Disk.content c.args.disk.now JournalFile in
    let reads = reads_same g.D.Disk.tells g.D.Disk.content g.D.Disk.may_leave g.D.Disk.moment g.D.Disk.left_since
    c.args.disk.now c.units.disk inv.looked JournalFile in (
      sf.0,
      sf.1,
      sf.2,
      sf.3,
      λ told.
          let still = told_still g.D.Disk.tells g.D.Disk.content g.D.Disk.may_leave g.D.Disk.moment g.D.Disk.left_since
          c.args.disk.now c.units.disk inv.looked told in
          walk_ends c.args.journal.now sf.0 c.units.at here c.unit_at.result c.unit_at.ensures.unborn
          (λ born.
          subst (λ (l : List ℕ). IfOk c.unit_at.result (GivesOne sf.0 c.units.at l)) reads
          (c.unit_at.ensures.one still born sf.0 (subst (ComesTo sf.0 c.units.at) (sym reads) (sf.5 told born))))
          (c.in-Ok-None.is ∙ ap (λ (x : Option (UnitView × ℕ)). Ok x) c.in-Ok-None.field-0-is) sf.4
          (c.requires.unborn told),
    )

pub returns-in-Ok-false-clause-damaged : goal.returns-in-Ok-false-clause-damaged
returns-in-Ok-false-clause-damaged g c told file at same =
    let inv = c.units.invariant in
    let sf = inv.so_far in
    let here = g.D.Disk.content c.args.disk.now JournalFile in
    let reads = reads_same g.D.Disk.tells g.D.Disk.content g.D.Disk.may_leave g.D.Disk.moment g.D.Disk.left_since
    c.args.disk.now c.units.disk inv.looked JournalFile in
    let still = told_still g.D.Disk.tells g.D.Disk.content g.D.Disk.may_leave g.D.Disk.moment g.D.Disk.left_since
    c.args.disk.now c.units.disk inv.looked told in
    let first : 0 ≡ file = cc in
    let there : c.units.at ≡ at = cc in
    let not = subst (λ (b : Bool). TakesIn c.in-Ok-Some.unit sf.1 c.take_in.new.core (Ok b)) c.in-Ok-false.field-0-test
    (c.in-Ok-false.ensures sf.1 sf.3) in (
      sym first,
      inr (subst (λ (n : ℕ). Rattle.sp_store.specs.Refused.IsRefusedAt n here) there
          (walk_refused c.args.journal.now sf.0 c.units.at here c.unit_at.result c.unit_at.ensures.unborn
          (λ born.
          subst (λ (l : List ℕ). IfOk c.unit_at.result (GivesOne sf.0 c.units.at l)) reads
          (c.unit_at.ensures.one still born sf.0 (subst (ComesTo sf.0 c.units.at) (sym reads) (sf.5 told born))))
          c.in-Ok-Some.unit c.in-Ok-Some.next
          (c.in-Ok-Some.is ∙ ap (λ (x : Option (UnitView × ℕ)). Ok x) c.in-Ok-Some.field-0-is)
          (sf.5 told) sf.1 sf.2 not)),
    )

pub units-preserved : goal.units-preserved
units-preserved g c =
    let inv = c.units.invariant in
    let sf = inv.so_far in
    let here = g.D.Disk.content c.args.disk.now JournalFile in
    let reads = reads_same g.D.Disk.tells g.D.Disk.content g.D.Disk.may_leave g.D.Disk.moment g.D.Disk.left_since
    c.args.disk.now c.units.disk inv.looked JournalFile in
    let is : c.unit_at.result ≡ Ok (Some (c.in-Ok-Some.unit, c.in-Ok-Some.next)) =
    c.in-Ok-Some.is ∙ ap (λ (x : Option (UnitView × ℕ)). Ok x) c.in-Ok-Some.field-0-is in
    let took = subst (λ (b : Bool). TakesIn c.in-Ok-Some.unit sf.1 c.take_in.new.core (Ok b)) c.in-Ok-true.field-0-test
    (c.in-Ok-true.ensures sf.1 sf.3) in
    record {
      looked = then g.D.Disk.tells g.D.Disk.content g.D.Disk.may_leave g.D.Disk.moment g.D.Disk.left_since
          c.args.disk.now c.units.disk c.unit_at.new.disk inv.looked c.unit_at.ensures.looked;
      faults = let more = c.unit_at.ensures.later in let before = inv.faults in omega (arith, more, before);
      so_far = (
        sf.0 ++ c.in-Ok-Some.unit ∷ [],
        took.0,
        leads_on sf.0 c.in-Ok-Some.unit first_ledger sf.1 took.0 sf.2 took.1,
        took.2,
        λ none. absurd (no_more c.unit_at.result (c.in-Ok-Some.unit, c.in-Ok-Some.next) (c.unit_at.ensures.unborn none) is),
        λ told born.
            let still = told_still g.D.Disk.tells g.D.Disk.content g.D.Disk.may_leave g.D.Disk.moment g.D.Disk.left_since
            c.args.disk.now c.units.disk inv.looked told in
            walk_on c.args.journal.now sf.0 c.units.at here c.unit_at.result c.unit_at.ensures.unborn
            (λ b.
            subst (λ (l : List ℕ). IfOk c.unit_at.result (GivesOne sf.0 c.units.at l)) reads
            (c.unit_at.ensures.one still b sf.0 (subst (ComesTo sf.0 c.units.at) (sym reads) (sf.5 told b))))
            c.in-Ok-Some.unit c.in-Ok-Some.next is born,
      );
    }
  where
    no_more : (r : Result (Option (UnitView × ℕ)) OpenError) (found : UnitView × ℕ) → r ≡ Ok None → r ≡ Ok (Some found) → ⊥
    no_more r found none some = absurd cc
