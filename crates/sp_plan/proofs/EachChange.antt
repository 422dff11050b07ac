-- Lists of changes, one for each copy and one behind them.
use Rattle.sp_access.specs.Flow.{FlowView}
use Rattle.sp_copies.specs.declared.closed.Cause.TheVariants.{TopicChanged}
use Rattle.sp_copies.specs.declared.closed.Closing.TheVariants.{Discarded}
use Rattle.sp_copies.specs.declared.made.MadeCopy.{MadeCopy}
use Rattle.sp_endpoint.specs.Endpoint.{EndpointView}
use Rattle.sp_ledger.specs.Changes.{Change, binds, closes}
use Rattle.sp_ledger.specs.OnFlows.{rebinding}
use Rattle.sp_plan.specs.Plan.{change_of, changes_of}
use Rattle.sp_plan.specs.declared.change.Change as own
use Rattle.sp_plan.specs.declared.change.Change.TheVariants as made
use Rattle.std.proofs.Common.{ap, refl, ◌∙◌}
use Rattle.std.proofs.lemmas.List.{map-append}
use Rattle.std.specs.Prelude.{List, [], map, ◌++◌, ◌∷◌, ◌≡◌}

-- a change for each element
pub each_change : {X : Type 0} (f : X → own.Change) (xs : List X) →
    changes_of (map f xs) ≡ map (λ x. change_of (f x)) xs
each_change f [] = refl
each_change f (x ∷ xs) = ap (λ (cs : List Change). change_of (f x) ∷ cs) (each_change f xs)

-- the changes of a bind
pub bind_changes : (e bound : EndpointView) (copies : List MadeCopy)
    (gone more all : List own.Change) (f : FlowView) →
    gone ≡ map (λ c. made.Closes c.number (Discarded TopicChanged)) copies →
    changes_of more ≡ changes_of gone ++ rebinding e bound → all ≡ more ++ made.Binds f ∷ [] →
    changes_of all ≡ map (λ c. closes c.number (Discarded TopicChanged)) copies ++ rebinding e bound ++ binds f ∷ []
bind_changes e bound copies gone more all f closed topics last =
    ap changes_of last
    ∙ (map-append change_of more (made.Binds f ∷ [])
    ∙ ap (λ (cs : List Change). cs ++ binds f ∷ [])
    (topics ∙ ap (λ (cs : List Change). cs ++ rebinding e bound)
    (ap changes_of closed ∙ each_change {X = MadeCopy} (λ c. made.Closes c.number (Discarded TopicChanged)) copies)))
