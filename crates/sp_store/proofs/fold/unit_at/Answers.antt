use Rattle.std.proofs.Common.{◌≡◌, ◌∙◌, ◌++◌, ◌∷◌, [], List, ℕ, Option, Err, ap, subst, sym}
use Rattle.sp_disk.specs.declared.disk.File.TheVariants.{Journal as JournalFile}
use Rattle.sp_journal.specs.Format.{ComesTo}
use Rattle.sp_journal.specs.Survey.{GivesUnit}
use Rattle.sp_journal.specs.declared.journal.UnitError.{UnitError}
use Rattle.sp_message.specs.declared.codec.ReadError.{ReadError}
use Rattle.sp_unit.proofs.Units.{one_unit}
use Rattle.sp_unit.specs.UnitBytes.{IsUnit, UnitView}
use Rattle.sp_store.proofs.fold.unit_at.Goals as goal

pub returns-in-Ok-None-clause-one : goal.returns-in-Ok-None-clause-one
returns-in-Ok-None-clause-one g c told born units comes =
    let file = g.D.Disk.content c.args.disk.now JournalFile in
    subst (λ (next : Option ℕ). GivesUnit units c.args.at c.unit.new.into.items file next) c.in-Ok-None.field-0-is
    (c.in-Ok-None.ensures.unit told born units comes)

pub returns-in-Ok-clause-one : goal.returns-in-Ok-clause-one
returns-in-Ok-clause-one g c told born units comes =
    let file = g.D.Disk.content c.args.disk.now JournalFile in
    let found = subst (λ (next : Option ℕ). GivesUnit units c.args.at c.unit.new.into.items file next)
    c.in-Ok-Some.field-0-is (c.in-Ok-Some.ensures.unit told born units comes) in
    let read : IsUnit c.unit.new.into.items c.in-Ok.unit =
    subst (λ (l : List ℕ). IsUnit l c.in-Ok.unit) c.as_slice.ensures.value c.in-Ok.ensures.read in
    let same : found.0 ≡ c.in-Ok.unit = one_unit c.unit.new.into.items found.0 c.in-Ok.unit found.1 read in
    subst (λ (u : UnitView). ComesTo (units ++ u ∷ []) c.in-Ok-Some.next file) same found.3

pub returns-in-Err-NotOne-clause-damaged : goal.returns-in-Err-NotOne-clause-damaged
returns-in-Err-NotOne-clause-damaged g c told born units comes file place same =
    let bytes = g.D.Disk.content c.args.disk.now JournalFile in
    let found = subst (λ (next : Option ℕ). GivesUnit units c.args.at c.unit.new.into.items bytes next)
    c.in-Ok-Some.field-0-is (c.in-Ok-Some.ensures.unit told born units comes) in
    absurd (c.read.ensures.none (c.in-Err-NotOne.is ∙ ap (λ (e : ReadError). Err e) c.in-Err-NotOne.field-0-is) found.0
    (subst (λ (l : List ℕ). IsUnit l found.0) (sym c.as_slice.ensures.value) found.1))

pub returns-in-Err-Damaged-clause-damaged : goal.returns-in-Err-Damaged-clause-damaged
returns-in-Err-Damaged-clause-damaged g c told born units comes file place same =
    let f = c.in-Err-Damaged.file in
    let p = c.in-Err-Damaged.at in
    let d = c.unit.ensures.damaged told born units comes f p
    (c.in-Err-Damaged.is ∙ ap (λ (e : UnitError). Err e) c.in-Err-Damaged.field-0-is) in
    let a : f ≡ file = cc in
    let b : p ≡ place = cc in
    (sym a ∙ d.0, sym b ∙ d.1, d.2)
