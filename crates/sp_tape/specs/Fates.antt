-- What holds at the end of a run of what its answers told.
use Rattle.std.specs.Prelude.{◌≡◌, All, Bool, false, true, ⊤}
use Rattle.sp_copies.specs.Sound.{HasOneFate}
use Rattle.sp_copies.specs.declared.closed.Fate.{Fate}
use Rattle.sp_copies.specs.declared.closed.Fate.TheVariants.{Never}
use Rattle.sp_event.specs.declared.answer.Answered.{Answered}
use Rattle.sp_event.specs.declared.answer.Answered.TheVariants.{Gave, Refused, Memory, Disk, Full}
use Rattle.sp_event.specs.declared.answer.CopyFate.{CopyFate}
use Rattle.sp_event.specs.declared.answer.Reply.{Reply}
use Rattle.sp_ledger.specs.Ledger.{Ledger}
use Rattle.sp_ledger.specs.Tally.{TellsBalanced}
use Rattle.sp_ledger.specs.Told.{FateHolds, told_fates}

-- whether a fate is that of a copy that was made
abbrev pub is_of_made : Fate → Bool
is_of_made Never = false
is_of_made fate = true

-- a copy whose fate was told was made, its number stands once, it has one fate: spooled, or its one closing; and a
-- fate other than spooled is still what was told
abbrev pub CopyHolds : Ledger → CopyFate → Type 0
CopyHolds M t = FateHolds M.copies t.copy t.fate × (is_of_made t.fate ≡ true → HasOneFate M.copies t.copy)

-- each copy that was told of is as told, and a tally that was told adds up
abbrev pub ReplyHolds : Ledger → Reply → Type 0
ReplyHolds M reply = All (CopyHolds M) (told_fates reply) × TellsBalanced reply

abbrev pub AnswerHolds : Ledger → Answered → Type 0
AnswerHolds M (Gave reply) = ReplyHolds M reply
AnswerHolds M (Refused refusal index) = ⊤
AnswerHolds M Memory = ⊤
AnswerHolds M Disk = ⊤
AnswerHolds M (Full len need most) = ⊤
