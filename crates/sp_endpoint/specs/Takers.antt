-- The endpoints that take a message.
use Rattle.std.specs.Prelude.{◌&&◌, ◌∷◌, ℕ, Bool, false, if◌then◌else◌}
use Rattle.std.specs.Prelude.{List, [], Option, Some, None, bytes_eq, filter, fold}
use Rattle.std.specs.Cmp.Lexicographic.{slice_cmp}
use Rattle.std.specs.Ordering.{is_lt, nat_cmp}
use Rattle.sp_config.specs.declared.kind.EndpointKind.{EndpointKind}
use Rattle.sp_config.specs.declared.kind.EndpointKind.TheVariants as kinds
use Rattle.sp_endpoint.specs.Endpoint.{EndpointView}
use Rattle.sp_endpoint.specs.Endpoints.{is_queue}
use Rattle.sp_message.specs.declared.message.Dest.{Dest}
use Rattle.sp_message.specs.declared.message.Dest.TheVariants.{Topic, Queue}
use Rattle.sp_message.specs.declared.message.Message.{Message}
use Rattle.sp_selector.specs.Takes.{passes}
use Rattle.sp_topic.specs.Matching.{matches}
use Rattle.sp_topic.specs.Subscriptions.{takes}

-- whether a topic endpoint's topic, where it has one, matches that of a message
abbrev pub is_matched : Option (List ℕ) → List ℕ → Bool
is_matched None topic = false
is_matched (Some subscription) topic = matches subscription topic

-- a queue takes a topic by its subscriptions, and a topic endpoint by its own topic
abbrev pub takes_topic : EndpointKind → EndpointView → List ℕ → Bool
takes_topic kinds.Queue e topic = takes e.subscriptions topic
takes_topic kinds.TopicEndpoint e topic = is_matched e.topic topic

-- an endpoint takes what goes to a topic that it takes, or to the queue that it is
abbrev pub takes_dest : Dest → EndpointView → Bool
takes_dest (Topic topic) e = takes_topic e.kind e topic
takes_dest (Queue name) e = is_queue e.kind && bytes_eq e.name name

-- an endpoint takes a message by where it goes and, where the endpoint has a selector, by that
abbrev pub takes_message : Message → EndpointView → Bool
takes_message m e = takes_dest m.dest e && passes e.selector m.properties

-- whether the first name comes before the second in byte order
abbrev pub is_before : List ℕ → List ℕ → Bool
is_before a b = is_lt (slice_cmp nat_cmp a b)

-- an endpoint in its place among others that stand in the byte order of names
abbrev pub placed : EndpointView → List EndpointView → List EndpointView
placed e [] = e ∷ []
placed e (f ∷ fs) = if is_before e.name f.name then e ∷ f ∷ fs else f ∷ placed e fs

-- endpoints in the byte order of their names
abbrev pub by_name : List EndpointView → List EndpointView
by_name endpoints = fold (λ before e. placed e before) [] endpoints

-- the endpoints that take a message, in the byte order of their names
abbrev pub takers : List EndpointView → Message → List EndpointView
takers endpoints m = by_name (filter (takes_message m) endpoints)
