-- The endpoints that are there, in order of number: look-ups, and what a change of one leaves.
use Rattle.std.specs.Prelude.{◌==◌, ◌&&◌, ℕ, Bool, true, false, not, if◌then◌else◌}
use Rattle.std.specs.Prelude.{List, Option, bytes_eq, filter, find, map}
use Rattle.std.specs.List.{list_any}
use Rattle.sp_config.specs.declared.kind.EndpointKind.{EndpointKind}
use Rattle.sp_config.specs.declared.kind.EndpointKind.TheVariants.{Queue, TopicEndpoint}
use Rattle.sp_endpoint.specs.Endpoint.{EndpointView}

-- the endpoint of a name, where it is there
abbrev pub named : List ℕ → List EndpointView → Option EndpointView
named name endpoints = find (λ e. bytes_eq e.name name) endpoints

-- whether an endpoint of the kind is a queue
abbrev pub is_queue : EndpointKind → Bool
is_queue Queue = true
is_queue TopicEndpoint = false

-- the queue of a name, where it is there
abbrev pub queue_named : List ℕ → List EndpointView → Option EndpointView
queue_named name endpoints = find (λ e. is_queue e.kind && bytes_eq e.name name) endpoints

-- the endpoint of a number, where it is there
abbrev pub numbered : ℕ → List EndpointView → Option EndpointView
numbered number endpoints = find (λ e. e.number == number) endpoints

-- whether the endpoint of a number is there
abbrev pub is_there : List EndpointView → ℕ → Bool
is_there endpoints number = list_any (λ e. e.number == number) endpoints

-- the endpoints with this one in the place of the one of its number
abbrev pub replaced : EndpointView → List EndpointView → List EndpointView
replaced new endpoints = map (λ e. if e.number == new.number then new else e) endpoints

-- the endpoints without the one of a number
abbrev pub without_endpoint : ℕ → List EndpointView → List EndpointView
without_endpoint number endpoints = filter (λ e. not (e.number == number)) endpoints
