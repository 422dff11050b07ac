-- The nodes of a tree: what stands where, and what makes them a tree.
use Rattle.std.specs.Prelude.{◌≡◌, ◌≤◌, ◌<◌, ◌==◌, ℕ, zero, suc, Bool, false, ◌&&◌, ◌||◌, List, [], ◌∷◌, ◌++◌}
use Rattle.std.specs.Prelude.{length, take, slice_get, Option, None, Some, true}
use Rattle.std.specs.List.{list_any}
use Rattle.std.specs.Option.{option_map_or}
use Rattle.sp_base.specs.Rows.{Roomy}
use Rattle.sp_base.specs.Topic.{levels}
use Rattle.sp_topic.specs.Subscription.{is_exception, topic_of}
use Rattle.sp_tree.specs.Children.{child}
use Rattle.sp_tree.specs.Node.{child_at, endpoints_at, is_prefix}
use Rattle.sp_tree.specs.Path.{ends_in_rest, steps}
use Rattle.sp_tree.specs.declared.node.Node.{Node}

-- the first node, where there are any
abbrev pub root : List Node → Option ℕ
root [] = None
root (node ∷ more) = Some 0

-- the child of the node at a place that a subscription's level leads to
abbrev pub next : List Node → ℕ → List ℕ → Option ℕ
next nodes at level = option_map_or (λ node. child_at node level) (slice_get nodes at) None

-- the node to which levels lead, one after another
abbrev pub place : List Node → Option ℕ → List (List ℕ) → Option ℕ
place nodes None levels = None
place nodes (Some at) [] = Some at
place nodes (Some at) (level ∷ more) = place nodes (next nodes at level) more

-- no endpoints, and no room
abbrev pub nobody : Roomy ℕ
nobody = record { items = []; room = 0 }

-- the endpoints at the node at a place
abbrev pub endpoints_of : List Node → Bool → Bool → ℕ → Roomy ℕ
endpoints_of nodes rest exception at =
    option_map_or (λ node. endpoints_at node rest exception) (slice_get nodes at) nobody

-- the endpoints at the node to which levels lead
abbrev pub held : List Node → Option ℕ → List (List ℕ) → Bool → Bool → Roomy ℕ
held nodes from levels rest exception = option_map_or (endpoints_of nodes rest exception) (place nodes from levels) nobody

-- the endpoint is one of them
abbrev pub has_number : List ℕ → ℕ → Bool
has_number endpoints endpoint = list_any (λ n. n == endpoint) endpoints

-- a test of some number below a bound
abbrev pub some_below : (ℕ → Bool) → ℕ → Bool
some_below test zero = false
some_below test (suc n) = some_below test n || test n

-- the children of the node at a place, by a text and by what stands before a `*`
abbrev pub by_text : List Node → ℕ → List ℕ → Option ℕ
by_text nodes at text = option_map_or (λ node. child node.by_text text) (slice_get nodes at) None

abbrev pub by_prefix : List Node → ℕ → List ℕ → Option ℕ
by_prefix nodes at prefix = option_map_or (λ node. child node.by_prefix prefix) (slice_get nodes at) None

-- what the walk through the nodes with a topic's levels finds
abbrev pub finds : List Node → Bool → Option ℕ → List (List ℕ) → ℕ → Bool
finds nodes exception None levels endpoint = false
finds nodes exception (Some at) [] endpoint = has_number (endpoints_of nodes false exception at).items endpoint
finds nodes exception (Some at) (level ∷ more) endpoint =
    has_number (endpoints_of nodes true exception at).items endpoint
    || (finds nodes exception (by_text nodes at level) more endpoint
    || some_below (λ n. finds nodes exception (by_prefix nodes at (take n level)) more endpoint) (suc (length level)))

-- the subscription of this text has these steps, a `>` behind them or not, and is an exception or not
pub record IsSpelled (text : List ℕ) (way : List (List ℕ)) (rest exception : Bool) : Type 0 where
  pub way_is : steps (levels (topic_of text)) ≡ way
  pub rest_is : ends_in_rest (levels (topic_of text)) ≡ rest
  pub exception_is : is_exception text ≡ exception

-- each child is a node, to which one way leads: the way to its parent and a level more
abbrev pub HasWays : List Node → (ℕ → List (List ℕ)) → Type 0
HasWays nodes way =
    (at : ℕ) (level : List ℕ) (child : ℕ) → next nodes at level ≡ Some child
    → (child < length nodes) × (way child ≡ way at ++ level ∷ [])

-- the nodes are a tree in which each endpoint stands for a subscription
pub record IsTree (nodes : List Node) : Type 0 where
  pub way : ℕ → List (List ℕ)
  pub from_root : way 0 ≡ []
  pub ways : HasWays nodes way
  pub texts : (at : ℕ) (text : List ℕ) (child : ℕ) → by_text nodes at text ≡ Some child → is_prefix text ≡ false
  pub spelled : (levels : List (List ℕ)) (rest exception : Bool) (endpoint : ℕ)
      → has_number (held nodes (root nodes) levels rest exception).items endpoint ≡ true
      → (text : List ℕ) × IsSpelled text levels rest exception

-- the new nodes hold what the old ones held, with at least as much room
abbrev pub HoldsSameFrom : List Node → List Node → Option ℕ → Option ℕ → Type 0
HoldsSameFrom old new old_from new_from =
    (levels : List (List ℕ)) (rest exception : Bool)
    → ((held new new_from levels rest exception).items ≡ (held old old_from levels rest exception).items)
    × ((held old old_from levels rest exception).room ≤ (held new new_from levels rest exception).room)

abbrev pub HoldsSame : List Node → List Node → Type 0
HoldsSame old new = HoldsSameFrom old new (root old) (root new)

-- no node goes, none gets another child in the place of one, and each holds what it held
pub record Grows (old new : List Node) : Type 0 where
  pub longer : length old ≤ length new
  pub ways_stay : (at : ℕ) (level : List ℕ) (child : ℕ) → next old at level ≡ Some child → next new at level ≡ Some child
  pub held_stays : (at : ℕ) → at < length old → HoldsSameFrom old new (Some at) (Some at)
