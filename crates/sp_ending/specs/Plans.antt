-- What the events come to by which copies end or are given back.
use Rattle.sp_copies.specs.declared.closed.Cause.TheVariants.{Deleted}
use Rattle.sp_copies.specs.declared.closed.Closing.TheVariants.{Discarded}
use Rattle.sp_copies.specs.declared.closed.Fate.{Fate}
use Rattle.sp_copies.specs.declared.closed.Fate.TheVariants as fates
use Rattle.sp_copies.specs.declared.made.MadeCopy.{MadeCopy}
use Rattle.sp_event.specs.declared.answer.CopyFate.{CopyFate}
use Rattle.sp_event.specs.declared.answer.Reply.TheVariants as replies
use Rattle.sp_event.specs.declared.request.Outcome.{Outcome}
use Rattle.sp_ledger.specs.Changes.{closes, unbinds, unbinds_all}
use Rattle.sp_ledger.specs.Endings.{all_told, ending, fate_by, one_by_one, returning}
use Rattle.sp_ledger.specs.Ledger.{Ledger}
use Rattle.sp_ledger.specs.OnFlows.{settling}
use Rattle.sp_plan.specs.Plan.{PlanState}
use Rattle.sp_settle.specs.declared.questions.Reason.TheVariants.{Expired}
use Rattle.std.specs.Prelude.{List, [], length, map, option_map, slice_get, unwrap_or, ℕ, ◌++◌, ◌-◌, ◌∷◌}

-- a tick that ends these copies
abbrev pub expiry_plan : List MadeCopy → Ledger → PlanState
expiry_plan due L =
    let changes = one_by_one (ending Expired) due L in
    record { changes = changes; reply = replies.Tick (all_told changes L) }

-- an unbind that gives these copies back
abbrev pub unbind_plan : ℕ → List MadeCopy → Ledger → PlanState
unbind_plan flow held L =
    let changes = one_by_one returning held L in
    let closed = all_told changes L in
    record {
      changes = changes ++ unbinds flow ∷ [];
      reply = replies.Unbind flow closed (length held - length closed);
    }

-- a restart that gives these copies back
abbrev pub restart_plan : List MadeCopy → Ledger → PlanState
restart_plan held L = record {
  changes = one_by_one returning held L ++ unbinds_all ∷ [];
  reply = replies.Restart;
}

-- a settle of this copy
abbrev pub settle_plan : Outcome → MadeCopy → Ledger → PlanState
settle_plan outcome c L =
    let change = settling outcome c L in
    record { changes = change ∷ []; reply = replies.Settle c.number (fate_by change L) }

-- a delete of these copies
abbrev pub delete_plan : List ℕ → List MadeCopy → PlanState
delete_plan name deleted = record {
  changes = map (λ c. closes c.number (Discarded Deleted)) deleted;
  reply = replies.DeleteCopies name (map (λ c. record { copy = c.number; fate = fates.Discarded Deleted }) deleted);
}

-- what is told of the first copy; one of which nothing is told is spooled
abbrev pub first_fate : List CopyFate → Fate
first_fate told = unwrap_or (option_map (λ t. t.fate) (slice_get told 0)) fates.Spooled
