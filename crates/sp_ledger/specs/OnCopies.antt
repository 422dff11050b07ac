-- The steps of the events that end copies which no flow holds.
use Rattle.sp_base.specs.declared.refusal.Refusal.TheVariants.{UnknownEndpoint}
use Rattle.sp_copies.specs.Due.{due_copies}
use Rattle.sp_copies.specs.History.{free_copies}
use Rattle.sp_copies.specs.declared.closed.Cause.TheVariants.{Deleted}
use Rattle.sp_copies.specs.declared.closed.Closing.TheVariants.{Discarded}
use Rattle.sp_copies.specs.declared.made.MadeCopy.{MadeCopy}
use Rattle.sp_endpoint.specs.Endpoint.{EndpointView}
use Rattle.sp_endpoint.specs.Endpoints.{named}
use Rattle.sp_event.specs.declared.answer.Reply.TheVariants as replies
use Rattle.sp_ledger.specs.Changes.{Change, closes}
use Rattle.sp_ledger.specs.Endings.{all_told, ending, one_by_one}
use Rattle.sp_ledger.specs.Ledger.{Ledger}
use Rattle.sp_ledger.specs.Limits.{most_ended}
use Rattle.sp_ledger.specs.Step.{Step, does, on_found}
use Rattle.sp_settle.specs.declared.questions.Reason.TheVariants.{Expired}
use Rattle.std.specs.Prelude.{Bool, List, None, Option, Some, [], filter, map, take, true, ℕ, ◌==◌}

-- the first copies that are due end, one after another
abbrev pub expiries : Ledger → List Change
expiries L = one_by_one (ending Expired) (take most_ended (due_copies L.copies L.now)) L

-- whose deadline has come ends, where no flow holds it
abbrev pub tick : Ledger → Step
tick L = does [] (expiries L) (replies.Tick (all_told (expiries L) L))

-- whether a copy is the named one; without a name each is
abbrev pub is_named : Option ℕ → MadeCopy → Bool
is_named None c = true
is_named (Some copy) c = c.number == copy

-- the copies that a delete ends: of those that no flow holds the named one, or the first of them
abbrev pub deleted : Ledger → EndpointView → Option ℕ → List MadeCopy
deleted L e copy = take most_ended (filter (is_named copy) (free_copies L.copies e.number))

-- they are discarded, and not moved
abbrev pub deletions : Ledger → EndpointView → Option ℕ → List Change
deletions L e copy = map (λ c. closes c.number (Discarded Deleted)) (deleted L e copy)

-- copies of an endpoint are deleted
abbrev pub delete_copies : List ℕ → Option ℕ → Ledger → Step
delete_copies name copy L =
    on_found (named name L.endpoints) (UnknownEndpoint name) (λ e.
    does [] (deletions L e copy) (replies.DeleteCopies e.name (all_told (deletions L e copy) L)))
