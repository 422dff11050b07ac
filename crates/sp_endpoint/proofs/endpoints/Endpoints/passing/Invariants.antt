use Rattle.std.proofs.Common.{◌≡◌, map, take}
use Rattle.std.specs.Prelude.{filter}
use Rattle.std.specs.List.{filter_map}
use Rattle.sp_endpoint.specs.Endpoints.{numbered}
use Rattle.sp_selector.specs.Takes.{passes}
use Rattle.sp_endpoint.proofs.endpoints.Endpoints.passing.Given as goal

abbrev pub invariant-loop-number : goal.invariant-loop-number
invariant-loop-number l =
    map (λ e. e.now) l.found.items
    ≡ filter (λ e. passes e.selector l.message.properties)
    (filter_map (λ n. numbered n l.self.items) (take l.number-index l.numbers))
