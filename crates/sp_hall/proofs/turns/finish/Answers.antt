use Rattle.std.proofs.Common.{arith, ◌∙◌}
use Rattle.sp_hall.proofs.Moves.{finishes_put}
use Rattle.sp_hall.proofs.turns.finish.Goals as goal

pub fetch_add-requires : goal.fetch_add-requires
fetch_add-requires g c =
    let asks = c.requires in
    let turn = asks.turn in
    let words = asks.hall.1.0 in
    let put = c.exchange-empty.ensures in (
      put.0 ∙ asks.hall.0,
      omega arith,
      finishes_put g.O.Object.shows _ _ _ _ _ c.args.object turn.0 turn.1 turn.2 turn.3 asks.slot put.3 asks.grown asks.counted asks.small asks.hall.1.1,
    )
