use Rattle.std.proofs.Common.{◌∙◌, sym}
use Rattle.sp_disk.specs.declared.disk.File.TheVariants.{Journal as JournalFile}
use Rattle.sp_tape.proofs.Exits.{fault_rose}
use Rattle.sp_tape.proofs.Looked.{no_read_fault, no_usage}
use Rattle.sp_tape.proofs.WholeTapes.{completes}
use Rattle.sp_tape.proofs.run_tape.run.Goals as goal

pub returns-in-Some-Check-clause-usage : goal.returns-in-Some-Check-clause-usage
returns-in-Some-Check-clause-usage g c = (
  λ is. absurd (no_usage (g.D.Disk.tells c.args.disk).content (g.D.Disk.content c.args.disk JournalFile)
      (g.K.Sink.written c.args.sink.now) (g.K.Sink.written c.check-status.new.sink) c.check-status.result c.check-status.ensures.checks is),
  λ none. absurd (cc (sym c.in-Some-Check.is ∙ (c.form_of.ensures ∙ none))),
)

pub returns-in-Some-Check-clause-read_fault : goal.returns-in-Some-Check-clause-read_fault
returns-in-Some-Check-clause-read_fault g c is =
    absurd (no_read_fault (g.D.Disk.tells c.args.disk).content (g.D.Disk.content c.args.disk JournalFile)
    (g.K.Sink.written c.args.sink.now) (g.K.Sink.written c.check-status.new.sink) c.check-status.result c.check-status.ensures.checks is)

pub returns-in-Some-Run-clause-complete : goal.returns-in-Some-Run-clause-complete
returns-in-Some-Run-clause-complete g c most is entries whole told good read write disk =
    let ran = c.run_over.ensures.tape in
    completes g.D.Disk.tells g.D.Disk.content g.D.Disk.may_leave g.D.Disk.moment g.D.Disk.left_since g.D.Disk.faults c.args.disk c.run_over.result.disk c.in-Some-Run.most (g.S.Source.left c.args.source.now)
    (g.S.Source.left c.run_over.new.source) (g.K.Sink.written c.args.sink.now) (g.K.Sink.written c.run_over.new.sink) entries
    whole told c.run_over.result.status ran good (c.run_over.ensures.damaged told) (c.run_over.ensures.other told)
    (λ e. read (c.run_over.ensures.read_fault e)) (λ e. write (c.run_over.ensures.write_fault e))
    (λ e. disk (fault_rose g.D.Disk.tells g.D.Disk.content g.D.Disk.may_leave g.D.Disk.moment g.D.Disk.left_since g.D.Disk.faults c.args.disk c.run_over.result.disk c.in-Some-Run.most (g.S.Source.left c.args.source.now)
    (g.S.Source.left c.run_over.new.source) (g.K.Sink.written c.args.sink.now) (g.K.Sink.written c.run_over.new.sink)
    c.run_over.result.status ran e))
