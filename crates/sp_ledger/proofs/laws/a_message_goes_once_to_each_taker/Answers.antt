use Rattle.sp_endpoint.specs.Endpoint.{EndpointView}
use Rattle.sp_endpoint.specs.Takers.{takes_message, takers}
use Rattle.sp_ledger.proofs.Listed.{All-both}
use Rattle.sp_ledger.proofs.Taken.{takers_rise, takers_all, takers_take, stand_as_takers}
use Rattle.sp_ledger.proofs.laws.a_message_goes_once_to_each_taker.Goals as goal
use Rattle.std.proofs.Common.{◌≡◌, true}
use Rattle.std.proofs.lemmas.List.Elements.{All-contains, All-contains_itself}
use Rattle.std.specs.Prelude.{Contains}

pub returns-clause-rises : goal.returns-clause-rises
returns-clause-rises c = λ L s m. takers_rise L m s.endpoints.differ

pub returns-clause-takes : goal.returns-clause-takes
returns-clause-takes c =
    λ L m. All-both (λ (e : EndpointView). takes_message m e ≡ true) (Contains L.endpoints) (takers L.endpoints m)
    (takers_take L m) (takers_all L m (Contains L.endpoints) (All-contains_itself L.endpoints))

pub returns-clause-stands : goal.returns-clause-stands
returns-clause-stands c =
    λ L m e among takes. All-contains
    (λ (x : EndpointView). takes_message m x ≡ true → Contains (takers L.endpoints m) x) L.endpoints e
    (stand_as_takers L m) among takes
