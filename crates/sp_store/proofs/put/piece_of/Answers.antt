use Rattle.std.proofs.Common.{◌≡◌, ◌∙◌, ◌++◌, List, ℕ, ap, subst, sym}
use Rattle.sp_unit.proofs.Lengths.{unit_len}
use Rattle.sp_unit.specs.UnitBytes.{IsUnit, UnitView}
use Rattle.sp_store.proofs.put.piece_of.Goals as goal

pub framed-requires : goal.framed-requires
framed-requires c =
    let unit : UnitView = record { moment = c.args.now; caller = c.args.from.now; events = c.args.unit.now } in
    let w = c.in_ok-write.ensures in
    let is : c.as_slice.result.now ≡ w.0 =
    c.as_slice.ensures.value ∙ w.2 ∙ ap (λ (l : List ℕ). l ++ w.0) c.new-body.ensures.items in
    unit_len c.as_slice.result.now unit (subst (λ (l : List ℕ). IsUnit l unit) (sym is) w.1)

pub returns-in-Ok : goal.returns-in-Ok
returns-in-Ok c =
    let unit : UnitView = record { moment = c.args.now; caller = c.args.from.now; events = c.args.unit.now } in
    let w = c.in_ok-write.ensures in
    let is : c.as_slice.result.now ≡ w.0 =
    c.as_slice.ensures.value ∙ w.2 ∙ ap (λ (l : List ℕ). l ++ w.0) c.new-body.ensures.items in
    c.in-Ok.ensures unit (subst (λ (l : List ℕ). IsUnit l unit) (sym is) w.1)
