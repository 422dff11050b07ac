use Rattle.sp_core.proofs.Prepared.{carries_out}
use Rattle.sp_core.proofs.state.Core.apply.Goals as goal

pub carry_out-requires-clause-room : goal.carry_out-requires-clause-room
carry_out-requires-clause-room c = rw c.into_parts-moment.ensures.changes c.requires.2.room

pub carry_out-requires-clause-may : goal.carry_out-requires-clause-may
carry_out-requires-clause-may c = rw (c.into_parts-moment.ensures.changes, c.into_parts-moment.ensures.moment) c.requires.2.decided.may

pub returns : goal.returns
returns c caller event p L s =
    carries_out c.args.self.now c.carry_out.new.self caller event c.args.ready _ L p.decided s c.into_parts-moment.ensures.replies
    (rw (c.into_parts-moment.ensures.changes, c.into_parts-moment.ensures.moment) at (c.carry_out.ensures L s))
