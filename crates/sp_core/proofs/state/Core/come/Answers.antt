use Rattle.sp_core.proofs.Standing.{came, standing}
use Rattle.sp_core.specs.Inside.{core_state}
use Rattle.sp_core.specs.State.{CoreState}
use Rattle.sp_ledger.specs.Changes.{changed, comes}
use Rattle.std.proofs.Common.{ap, arith, subst, sym, ◌∙◌}
use Rattle.std.specs.Prelude.{ℕ, ◌+◌, ◌<◌, ◌≤◌}
use Rattle.sp_endpoint.specs.Endpoint.{EndpointView}
use Rattle.std.proofs.lemmas.List.Elements.{All-weaker}
use Rattle.std.specs.Prelude.{All, List}
use Rattle.sp_core.proofs.state.Core.come.Goals as goal

pub add-requires-clause-above : goal.add-requires-clause-above
add-requires-clause-above c =
    let m = c.requires.may in
    let s = standing _ _ m.0 c.self.view_is m.1 in
    let number = m.2.number in
    subst (λ (es : List EndpointView). All (λ e. e.number < c.args.endpoint.number) es) (sym s.endpoints)
    (All-weaker (λ (e : EndpointView). e.number < m.0.next.endpoint) (λ (e : EndpointView). e.number < c.args.endpoint.number)
    (λ e lt. omega (arith, lt, number)) m.0.endpoints s.ledger.sound.endpoints.below)

pub add-requires-clause-room : goal.add-requires-clause-room
add-requires-clause-room c = subst (λ (k : CoreState). 0 < k.endpoints.room) (sym c.self.view_is) (let r = c.requires.room.endpoints in omega (arith, r))

pub of-self-inside-requires : goal.of-self-inside-requires
of-self-inside-requires c =
    let unspent = c.requires.may.2.unspent in
    let value = c.value.ensures.value in
    let same = ap (λ (e : EndpointView). e.number) c.endpoint.view_is in
    let most : c.value.result + 1 ≤ 4611686018427387904 = omega (arith, unspent, value, same) in
    let least : 0 ≤ c.value.result + 1 = omega arith in
    (omega arith, (least, most))

pub returns-clause-changed : goal.returns-clause-changed
returns-clause-changed c L s may = came (core_state c.self.inside) L (standing _ _ L c.self.view_is s) c.add.new.self c.of-self-inside.result c.args.endpoint may c.add.ensures.items (c.of-self-inside.ensures ∙ ap (λ (n : ℕ). n + 1) c.value.ensures.value ∙ ap (λ (e : EndpointView). e.number + 1) c.endpoint.view_is)

pub invariant_of-self : goal.invariant_of-self
invariant_of-self c =
    let m = c.requires.may in
    record { ledger = changed (comes c.args.endpoint) m.0; stands = returns-clause-changed c m.0 m.1 m.2 }
