use Rattle.sp_core.proofs.Standing.{standing}
use Rattle.sp_core.specs.Inside.{core_state}
use Rattle.sp_core.proofs.state.Core.tally.Goals as goal

pub returns : goal.returns
returns c L s =
    let kept = (standing (core_state c.self.inside) _ L c.self.view_is s).copies in
    λ i. record {
      accepted = c.count_accepted.ensures L.copies kept i;
      causes = c.in_ok-count_causes.ensures L.copies kept i;
      discarded = c.count_discarded.ensures L.copies kept i;
      made = c.count_made.ensures L.copies kept i;
      moved = c.count_moved.ensures L.copies kept i;
      spooled = c.count_spooled.ensures L.copies kept i;
      used = c.used_in.ensures L s i;
    }
