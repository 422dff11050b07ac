-- Which flows hold the copies of an endpoint.
use Rattle.sp_access.specs.Activity.{flows_of, is_first}
use Rattle.sp_access.specs.Flow.{FlowView}
use Rattle.sp_config.specs.Attributes.{is_exclusive, is_partitioned}
use Rattle.sp_copies.specs.History.{History}
use Rattle.sp_copies.specs.declared.held.HeldCopy.{HeldCopy}
use Rattle.sp_copies.specs.declared.made.MadeCopy.{MadeCopy}
use Rattle.sp_endpoint.specs.Endpoint.{EndpointView}
use Rattle.std.specs.List.{list_any}
use Rattle.std.specs.Prelude.{All, AllPairs, Bool, List, true, ℕ, ◌&&◌, ◌==◌, ◌≡◌}

-- whether a held copy is one of an endpoint
abbrev pub is_in : List MadeCopy → ℕ → HeldCopy → Bool
is_in made endpoint h = list_any (λ c. (c.number == h.copy) && (c.endpoint == endpoint)) made

-- whether it belongs to this partition of an endpoint
abbrev pub is_in_partition : List MadeCopy → ℕ → ℕ → HeldCopy → Bool
is_in_partition made endpoint partition h =
    list_any (λ c. (c.number == h.copy) && (c.endpoint == endpoint) && (c.partition == partition)) made

-- on an exclusive endpoint only its first flow holds copies, and no two flows hold copies of one partition of a
-- partitioned queue
pub record IsInTurn (flows : List FlowView) (H : History) (e : EndpointView) : Type 0 where
  pub first :
      is_exclusive e.attributes.access_type ≡ true →
      All (λ h. is_in H.made e.number h ≡ true → is_first (flows_of flows e.number) h.flow ≡ true) H.held
  pub alone :
      is_partitioned e.attributes ≡ true → (partition : ℕ) →
      AllPairs (λ g h. is_in_partition H.made e.number partition g ≡ true →
      is_in_partition H.made e.number partition h ≡ true → g.flow ≡ h.flow) H.held
