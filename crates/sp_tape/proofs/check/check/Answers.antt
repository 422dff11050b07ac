use Rattle.std.proofs.Common.{◌∙◌, Err, ap, refl, sym}
use Rattle.sp_disk.specs.declared.disk.File.TheVariants.{Journal as JournalFile}
use Rattle.sp_journal.specs.declared.journal.OpenError.{OpenError}
use Rattle.sp_tape.proofs.Exits.{told_damage}
use Rattle.sp_tape.proofs.Looked.{open_checks}
use Rattle.sp_tape.proofs.check.check.Goals as goal

pub returns-in-Err-clause-checks : goal.returns-in-Err-clause-checks
returns-in-Err-clause-checks g c =
    rw c.of_open.ensures (open_checks (g.D.Disk.tells c.args.disk.now).content (g.D.Disk.content c.args.disk.now JournalFile)
    (g.K.Sink.written c.args.sink.now) (g.K.Sink.written c.args.sink.now) c.in-Err.error refl)

pub returns-in-Err-clause-damaged : goal.returns-in-Err-clause-damaged
returns-in-Err-clause-damaged g c told file at is =
    c.look.ensures.damaged told file at
    (c.in-Err.is ∙ ap (λ (e : OpenError). Err e) (told_damage c.in-Err.error file at (sym c.of_open.ensures ∙ is)))
