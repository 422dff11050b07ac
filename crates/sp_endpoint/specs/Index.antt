-- The tree in which the takers of a topic are looked up.
use Rattle.std.specs.Prelude.{◌≡◌, ◌≢◌, ⊤, ℕ, Bool, true, not, List, [], Option, None, Some, IfSome}
use Rattle.std.specs.Option.{option_map_or, option_to_list}
use Rattle.sp_config.specs.declared.kind.EndpointKind.{EndpointKind}
use Rattle.sp_config.specs.declared.kind.EndpointKind.TheVariants.{Queue, TopicEndpoint}
use Rattle.sp_endpoint.specs.Endpoint.{EndpointView}
use Rattle.sp_endpoint.specs.Endpoints.{numbered}
use Rattle.sp_topic.specs.Subscription.{is_exception}
use Rattle.sp_tree.specs.Tree.{AreTextsOf}
use Rattle.sp_tree.specs.declared.node.Node.{Node}

-- the texts by which an endpoint takes topics: a queue's subscriptions, or a topic endpoint's topic
abbrev pub texts : EndpointKind → EndpointView → List (List ℕ)
texts Queue e = e.subscriptions
texts TopicEndpoint e = option_to_list e.topic

-- a topic endpoint's topic is no exception, which a tree would read as one
abbrev pub is_plain : EndpointKind → EndpointView → Bool
is_plain Queue e = true
is_plain TopicEndpoint e = option_map_or (λ topic. not (is_exception topic)) e.topic true

-- the texts of the endpoint of a number, where there is one
abbrev pub texts_of : Option EndpointView → List (List ℕ)
texts_of None = []
texts_of (Some e) = texts e.kind e

-- the tree holds the texts of the endpoint of each number, and nothing else
pub record IsIndex (tree : List Node) (at : ℕ → Option EndpointView) : Type 0 where
  pub holds : (number : ℕ) → AreTextsOf tree number (texts_of (at number))
  pub plain : (number : ℕ) → IfSome (at number) (λ e. is_plain e.kind e ≡ true)

-- the same where there is a tree
abbrev pub IsIndexed : Option (List Node) → (ℕ → Option EndpointView) → Type 0
IsIndexed None at = ⊤
IsIndexed (Some tree) at = IsIndex tree at

-- the endpoint of this number is another, or none, and those of all other numbers are the same
pub record ChangesOne (number : ℕ) (new : Option EndpointView) (at after : ℕ → Option EndpointView) : Type 0 where
  pub own : after number ≡ new
  pub others : (n : ℕ) → n ≢ number → after n ≡ at n

-- of endpoints as a list
abbrev pub Indexes : Option (List Node) → List EndpointView → Type 0
Indexes tree endpoints = IsIndexed tree (λ number. numbered number endpoints)
