use Rattle.std.proofs.Common.{◌≡◌, subst, sym}
use Rattle.sp_hall.specs.States.{Leads}
use Rattle.sp_hall.proofs.Gathering.{Gathers, all_but_last, gathers_none, gathers_more}
use Rattle.sp_hall.proofs.hall.Hall.gather.Goals as goal

pub loop-other-init : goal.loop-other-init
loop-other-init g c = gathers_none _ _ _ c.requires.hall c.requires.others

pub meet-requires-clause-other : goal.meet-requires-clause-other
meet-requires-clause-other g c = (all_but_last (λ p. p.hall ≡ c.args.self.now) _ _ _ c.in-Some.ensures.items c.loop-other.invariant.others).1

pub loop-other-preserved : goal.loop-other-preserved
loop-other-preserved g c =
    let met = c.meet.ensures.met in
    subst (λ p. Gathers c.args.self.now c.args.pass.now c.args.others.items p c.pop.new.self.items) (sym met)
    (gathers_more _ _ _ _ _ _ _ c.loop-other.invariant c.in-Some.ensures.items
    (subst (λ p. Leads c.loop-other.pass.seen p.seen) met c.meet.ensures.later)
    (subst (λ p. Leads c.in-Some.other.seen p.seen) met c.meet.ensures.other))
