use Rattle.sp_core.specs.Stands.{IsRoomier}
use Rattle.sp_core.proofs.state.Core.reserve_texts.Given as goal

abbrev pub invariant-loop-change : goal.invariant-loop-change
invariant-loop-change l = IsRoomier l.initial.self l.self
