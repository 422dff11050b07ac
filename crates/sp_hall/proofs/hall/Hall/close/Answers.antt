use Rattle.std.proofs.Common.{subst, ap}
use Rattle.sp_hall.specs.States.{Leads}
use Rattle.sp_hall.proofs.Gathering.{all_seen}
use Rattle.sp_hall.proofs.hall.Hall.close.Goals as goal

pub returns-clause-seen : goal.returns-clause-seen
returns-clause-seen g c =
    let last = g.O.Object.shows c.close_table.result in
    all_seen _ _ _ _ last c.in-Some.ensures.items c.gather.ensures.later c.gather.ensures.others
    (subst (λ p. Leads p last) (ap (λ p. p.seen) c.pass.view_is) c.close_table.ensures.seen)
