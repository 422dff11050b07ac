-- What the line of an answer tells of it: all, but for the place of a refused event.
use Rattle.std.specs.Prelude.{◌≡◌, ◌<◌, ◌^◌, ℕ, pos, negsuc, true, None, All, AllPairs, ⊤}
use Rattle.serde_json.specs.Data.{Num, unsigned, negative, float, Data, null, boolean, number, string, array, object}
use Rattle.serde_json.specs.Data.{Items, no_items, item, Members, no_members, member}
use Rattle.sp_copies.specs.Counts.{cause_place}
use Rattle.sp_event.specs.declared.answer.Answered.{Answered}
use Rattle.sp_event.specs.declared.answer.Answered.TheVariants.{Gave, Refused, Memory, Disk, Full}
use Rattle.sp_event.specs.declared.answer.Reply.TheVariants as replies
use Rattle.sp_json.specs.Payloads.{AreBytes}
use Rattle.sp_message.specs.Property.{are_properties}
use Rattle.sp_flowline.specs.Answers.{answer_data, line_of}

-- a number of 64 bits: with a sign it is below zero
abbrev pub IsWhole : Num → Type 0
IsWhole (unsigned n) = n < 2 ^ 64
IsWhole (negative (pos n)) = ⊥
IsWhole (negative (negsuc n)) = n < 2 ^ 63
IsWhole (float x) = ⊥

-- each number in a JSON value is one of 64 bits
abbrev mutual
  pub HasWholes : Data → Type 0
  HasWholes null = ⊤
  HasWholes (boolean b) = ⊤
  HasWholes (number n) = IsWhole n
  HasWholes (string s) = ⊤
  HasWholes (array ds) = ItemsHaveWholes ds
  HasWholes (object ms) = MembersHaveWholes ms

  pub ItemsHaveWholes : Items → Type 0
  ItemsHaveWholes no_items = ⊤
  ItemsHaveWholes (item d ds) = HasWholes d × ItemsHaveWholes ds

  pub MembersHaveWholes : Members → Type 0
  MembersHaveWholes no_members = ⊤
  MembersHaveWholes (member k d ms) = HasWholes d × MembersHaveWholes ms

-- what answers keep: a tally has its causes in the order of their names, payloads are bytes, and properties keep their
-- rules
abbrev pub IsTellable : Answered → Type 0
IsTellable (Gave (replies.Tally tally)) = AllPairs (λ a b. cause_place a.cause < cause_place b.cause) tally.causes
IsTellable (Gave (replies.Pull flow deliveries)) =
    All (λ d. AreBytes d.payload × (are_properties d.properties ≡ true)) deliveries
IsTellable answered = ⊤

-- an answer without the place of a refused event, which no line shows
abbrev pub without_index : Answered → Answered
without_index (Refused refusal index) = Refused refusal None
without_index (Gave reply) = Gave reply
without_index Memory = Memory
without_index Disk = Disk
without_index (Full len need most) = Full len need most

-- answers with one line are the same but for that place, at whatever numbers of units
abbrev pub LinesTellAnswers : Type 0
LinesTellAnswers = (a b : Answered) (m n : ℕ)
    → IsTellable a → IsTellable b → HasWholes (answer_data a m) → HasWholes (answer_data b n)
    → line_of a m ≡ line_of b n → without_index a ≡ without_index b
