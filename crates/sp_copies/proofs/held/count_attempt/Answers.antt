use Rattle.std.proofs.Common.{◌∙◌, ap}
use Rattle.sp_copies.specs.History.{attempted}
use Rattle.sp_copies.proofs.HeldSound.{lent-attempts}
use Rattle.sp_copies.proofs.held.count_attempt.Goals as goal

pub returns-clause-items : goal.returns-clause-items
returns-clause-items c = lent-attempts c.args.copy c.args.attempts.now.items c.count_in.new.rows
    (c.count_in.ensures ∙ ap (attempted c.args.copy) c.as_mut_slice.ensures.rows)
