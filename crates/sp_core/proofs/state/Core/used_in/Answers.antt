use Rattle.sp_copies.specs.Counts.{used_in}
use Rattle.sp_core.proofs.Standing.{standing}
use Rattle.sp_core.specs.Inside.{core_state}
use Rattle.sp_ledger.proofs.Fits.{tally_small}
use Rattle.std.proofs.Common.{arith, ◌∙◌}
use Rattle.std.proofs.Math.Nat.{min-eq_left}
use Rattle.std.specs.Prelude.{◌*◌, ◌≤◌}
use Rattle.sp_core.proofs.state.Core.used_in.Goals as goal

pub returns : goal.returns
returns c L s =
    let small : used_in L.copies c.args.endpoint ≤ 1000 * 838860800000 = (tally_small L s.ledger.sound c.args.endpoint).used in
    c.used_in.ensures L.copies (standing (core_state c.self.inside) _ L c.self.view_is s).copies
    ∙ min-eq_left (omega (arith, small))
