-- What a query is answered.
use Rattle.std.specs.Prelude.{◌≡◌, ⊤, ℕ, Err, List, Ok, Result}
use Rattle.sp_base.specs.declared.declined.Declined.{Declined}
use Rattle.sp_base.specs.declared.declined.Declined.TheVariants.{Refused, Memory}
use Rattle.sp_base.specs.declared.refusal.Refusal.{Refusal}
use Rattle.sp_core.specs.Stands.{Stands}
use Rattle.sp_core.specs.State.{CoreState}
use Rattle.sp_event.specs.declared.answer.Reply.{Reply}
use Rattle.sp_event.specs.declared.request.Query.{Query}
use Rattle.sp_ledger.specs.Answer.{answer, gave, unanswered}
use Rattle.sp_ledger.specs.Ledger.{Ledger}

-- a query is answered as on each ledger for which the core stands; want of memory may always come
abbrev pub IsAnswered : CoreState → ℕ → List ℕ → Query → Result Reply (Declined Refusal) → Type 0
IsAnswered core moment caller query (Ok reply) =
    (L : Ledger) → Stands core L → answer moment caller query L ≡ gave reply
IsAnswered core moment caller query (Err (Refused refusal)) =
    (L : Ledger) → Stands core L → answer moment caller query L ≡ unanswered refusal
IsAnswered core moment caller query (Err Memory) = ⊤
