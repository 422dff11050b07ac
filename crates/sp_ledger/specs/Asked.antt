-- What a request of a caller at a moment is answered, and the ledger after it.
use Rattle.std.specs.Prelude.{◌≡◌, ℕ, List, [], ◌∷◌, None}
use Rattle.sp_event.specs.declared.request.Ask.{Ask}
use Rattle.sp_event.specs.declared.request.Ask.TheVariants.{Do, Look}
use Rattle.sp_event.specs.declared.answer.Answered.{Answered}
use Rattle.sp_event.specs.declared.answer.Answered.TheVariants.{Gave, Refused, Memory, Disk, Full}
use Rattle.sp_event.specs.declared.answer.Reply.{Reply}
use Rattle.sp_ledger.specs.Answer.{answer, gave, unanswered}
use Rattle.sp_ledger.specs.Events.{outcome}
use Rattle.sp_ledger.specs.Ledger.{Ledger, empty_ledger}
use Rattle.sp_ledger.specs.Step.{Outcome, refused, idle, accepted}

-- the ledger of a spool that has done nothing yet: the next number of each kind is 1
abbrev pub first_ledger : Ledger
first_ledger = empty_ledger (record { endpoint = 1; message = 1; flow = 1; replay = 1; unit = 1 }) 1

-- an outcome on a ledger gives this reply, and leaves this ledger
abbrev pub Gives : Outcome → Ledger → Reply → Ledger → Type 0
Gives (refused refusal) L reply M = ⊥
Gives (idle told) L reply M = (told ≡ reply ∷ []) × (M ≡ L)
Gives (accepted N told) L reply M = (told ≡ reply ∷ []) × (M ≡ N)

-- the answer to a request, and the ledger after it: the reply and the ledger of the event's step, or its refusal;
-- the reply or the refusal of a query, which leaves the ledger
abbrev pub Answers : ℕ → List ℕ → Ask → Ledger → Answered → Ledger → Type 0
Answers moment caller (Do event) L (Gave reply) M = Gives (outcome moment caller event L) L reply M
Answers moment caller (Do event) L (Refused refusal index) M =
    (outcome moment caller event L ≡ refused refusal) × (index ≡ None) × (M ≡ L)
Answers moment caller (Look query) L (Gave reply) M = (answer moment caller query L ≡ gave reply) × (M ≡ L)
Answers moment caller (Look query) L (Refused refusal index) M =
    (answer moment caller query L ≡ unanswered refusal) × (index ≡ None) × (M ≡ L)
Answers moment caller ask L Memory M = ⊥
Answers moment caller ask L Disk M = ⊥
Answers moment caller ask L (Full len need most) M = ⊥
