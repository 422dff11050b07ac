-- What an entry is answered, and the state after it.
use Rattle.std.specs.Prelude.{◌≡◌, ◌⊎◌, ℕ, Bool, IsTrue, List, [], ◌∷◌, None, Result, Ok, Err}
use Rattle.sp_base.specs.declared.refusal.Refusal.{Refusal}
use Rattle.sp_base.specs.declared.refusal.Refusal.TheVariants.{BadRequest}
use Rattle.sp_event.specs.declared.answer.Answered.{Answered}
use Rattle.sp_event.specs.declared.answer.Answered.TheVariants as answers
use Rattle.sp_event.specs.declared.answer.Reply.{Reply}
use Rattle.sp_event.specs.declared.answer.Reply.TheVariants as replies
use Rattle.sp_event.specs.declared.request.Ask.{Ask}
use Rattle.sp_event.specs.declared.request.Ask.TheVariants.{Do, Look}
use Rattle.sp_event.specs.declared.request.Event.{Event}
use Rattle.sp_flowline.specs.Request.{IsReadAs}
use Rattle.sp_ledger.specs.Asked.{Answers}
use Rattle.sp_ledger.specs.Events.{outcome}
use Rattle.sp_store.specs.Commit.{Commits}
use Rattle.sp_store.specs.declared.receipt.CommitFault.{CommitFault}
use Rattle.sp_store.specs.declared.receipt.CommitFault.TheVariants as fault
use Rattle.sp_store.specs.declared.receipt.Receipt.{Receipt}
use Rattle.sp_tape.specs.declared.entry.Entry.{Entry}
use Rattle.sp_tape.specs.declared.entry.Kind.{Kind}
use Rattle.sp_tape.specs.declared.entry.Kind.TheVariants.{Flow, Http, Rdp, Restart}
use Rattle.sp_tape.specs.Places.{place_after}
use Rattle.sp_tape.specs.State.{RunState, BeginsAgain}
use Rattle.sp_unit.specs.UnitBytes.{UnitView}

-- an answer, and the state after it
pub record Told : Type 0 where
  pub answered : Answered
  pub after : RunState

-- the unit of one event
abbrev pub unit_of : ℕ → List ℕ → Event → UnitView
unit_of moment caller event = record { moment = moment; caller = caller; events = event ∷ [] }

-- what is told of a commit: the one reply, the refusal, or what was wanting
abbrev pub IsToldOf : Result Receipt CommitFault → Answered → Type 0
IsToldOf (Ok receipt) answered = (reply : Reply) × (receipt.replies.items ≡ reply ∷ []) × (answered ≡ answers.Gave reply)
IsToldOf (Err (fault.Refused index refusal)) answered = answered ≡ answers.Refused refusal None
IsToldOf (Err fault.Memory) answered = answered ≡ answers.Memory
IsToldOf (Err (fault.Full len need most)) answered = answered ≡ answers.Full len need most
IsToldOf (Err fault.Disk) answered = answered ≡ answers.Disk

-- memory was wanting: that may come in place of any answer, and changes nothing
abbrev pub LacksMemory : RunState → Told → Type 0
LacksMemory S t = (t.answered ≡ answers.Memory) × (t.after ≡ S)

-- by whether the disk tells its content, and the journal's greatest length in bytes
module _ (trusted : Bool) (most : ℕ) where
  -- an event is committed behind the units of the state
  pub record AnswersEvent (moment : ℕ) (caller : List ℕ) (event : Event) (S : RunState) (t : Told) : Type 0 where
    pub place : ℕ
    pub is_place : IsTrue trusted → place ≡ place_after S.units
    pub result : Result Receipt CommitFault
    pub commits : Commits (λ unsure units L. t.after ≡ record { units = units; ledger = L; unsure = unsure })
        (unit_of moment caller event) S.units S.ledger S.unsure place most event (outcome moment caller event S.ledger)
        result
    pub told : IsToldOf result t.answered

  -- an event is committed; a query is answered by the ledger, and leaves the state
  abbrev pub AnswersAsk : ℕ → List ℕ → Ask → RunState → Told → Type 0
  AnswersAsk moment caller (Do event) S t = AnswersEvent moment caller event S t
  AnswersAsk moment caller (Look query) S t =
      Answers moment caller (Look query) S.ledger t.answered S.ledger × (t.after ≡ S)

  -- what bytes are read as is answered: a request, and bytes that are none by their refusal
  abbrev pub AnswersReading : ℕ → List ℕ → Result Ask Refusal → RunState → Told → Type 0
  AnswersReading moment caller (Ok ask) S t = AnswersAsk moment caller ask S t
  AnswersReading moment caller (Err refusal) S t = (t.answered ≡ answers.Refused refusal None) × (t.after ≡ S)

  -- a line of a caller at a moment is answered
  abbrev pub AnswersLine : ℕ → List ℕ → List ℕ → RunState → Told → Type 0
  AnswersLine moment caller line S t =
      ((r : Result Ask Refusal) × IsReadAs line r × AnswersReading moment caller r S t) ⊎ LacksMemory S t

  -- the answer to an entry by its kind: a flow entry is one line, a restart opens the journal again; the others aren't
  -- served yet, and are bad requests
  abbrev pub ActsAs : Kind → Entry → RunState → Told → Type 0
  ActsAs Flow e S t = AnswersLine e.moment e.caller e.body S t
  ActsAs Http e S t = (t.answered ≡ answers.Refused (BadRequest 1) None) × (t.after ≡ S)
  ActsAs Rdp e S t = (t.answered ≡ answers.Refused (BadRequest 1) None) × (t.after ≡ S)
  ActsAs Restart e S t = (t.answered ≡ answers.Gave replies.Restart) × BeginsAgain trusted S t.after

  -- the answers to an entry, one after another; an entry of any of these kinds has one
  abbrev pub Acts : Entry → RunState → List Told → Type 0
  Acts e S told = (t : Told) × (told ≡ t ∷ []) × ActsAs e.kind e S t

-- a unit of the event that an entry's bytes ask for
abbrev pub IsUnitOf : Entry → UnitView → Type 0
IsUnitOf e unit = (event : Event) × IsReadAs e.body (Ok (Do event)) × (unit ≡ unit_of e.moment e.caller event)
