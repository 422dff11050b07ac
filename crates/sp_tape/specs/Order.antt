-- In which order the pulls of a run hand copies out.
use Rattle.std.specs.Prelude.{ℕ, List, [], ◌∷◌, ⊤}
use Rattle.sp_event.specs.declared.answer.Answered.{Answered}
use Rattle.sp_event.specs.declared.answer.Answered.TheVariants.{Gave, Refused, Memory, Disk, Full}
use Rattle.sp_ledger.specs.Ledger.{Ledger}
use Rattle.sp_ledger.specs.Order.{HandsOutInOrder}
use Rattle.sp_ledger.specs.Step.{begun}
use Rattle.sp_tape.specs.Acts.{Told}
use Rattle.sp_tape.specs.Run.{Turn, state_left}
use Rattle.sp_tape.specs.State.{RunState}

-- where an answer tells that copies are handed out, no copy of a partition is while the flow can reach an earlier one
-- that isn't
abbrev pub KeepsOrder : Ledger → Answered → Type 0
KeepsOrder L (Gave reply) = HandsOutInOrder L reply
KeepsOrder L (Refused refusal index) = ⊤
KeepsOrder L Memory = ⊤
KeepsOrder L Disk = ⊤
KeepsOrder L (Full len need most) = ⊤

-- each of the answers at a moment, in the state that the one before left
abbrev pub AnswersInOrder : ℕ → RunState → List Told → Type 0
AnswersInOrder moment S [] = ⊤
AnswersInOrder moment S (t ∷ told) = KeepsOrder (begun moment S.ledger) t.answered × AnswersInOrder moment t.after told

-- and so each turn
abbrev pub IsInOrder : RunState → List Turn → Type 0
IsInOrder S [] = ⊤
IsInOrder S (t ∷ ts) = AnswersInOrder t.entry.moment S t.told × IsInOrder (state_left S t.told) ts
