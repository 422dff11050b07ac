use Rattle.sp_core.proofs.Standing.{fits_there, moved, number_left, standing}
use Rattle.sp_core.specs.Inside.{core_state}
use Rattle.sp_ledger.specs.Changes.{changed, moves}
use Rattle.std.proofs.Common.{arith, ◌≡◌, ◌∙◌}
use Rattle.sp_core.proofs.state.Core.move_copy.Goals as goal

pub of-to-requires : goal.of-to-requires
of-to-requires c =
    let m = c.requires.may in
    let s = standing _ _ m.0 c.self.view_is m.1 in
    let next : c.next.result ≡ m.0.copies.next = c.next.ensures m.0.copies s.copies in
    let left = number_left (core_state c.self.inside) m.0 s c.args.copy c.args.new m.2 in
    (omega arith, (omega arith, omega (arith, next, left)))

pub make-requires-clause-used : goal.make-requires-clause-used
make-requires-clause-used c =
    let m = c.requires.may in
    let s = standing _ _ m.0 c.self.view_is m.1 in (
      _,
      c.close.ensures.closed m.0.copies s.copies,
      fits_there (core_state c.self.inside) m.0 s c.args.copy _ _ c.args.new m.2,
    )

pub returns-clause-changed : goal.returns-clause-changed
returns-clause-changed c L s may =
    let t = standing _ _ L c.self.view_is s in
    moved (core_state c.self.inside) L t c.close.new.self c.make.new.self c.args.copy c.of-to.result c.args.new may
    (c.of-to.ensures ∙ c.next.ensures L.copies t.copies) c.close.ensures.closed c.make.ensures.made

pub invariant_of-self : goal.invariant_of-self
invariant_of-self c =
    let m = c.requires.may in
    record { ledger = changed (moves c.args.copy c.args.new) m.0; stands = returns-clause-changed c m.0 m.1 m.2 }
