use Rattle.std.proofs.Common.{◌++◌, ◌-◌, ap, length, take, drop, refl, List}
use Rattle.std.specs.Prelude.{vec_len}
use Rattle.std.specs.Vec.{vec_capacity}
use Rattle.sp_base.proofs.rows.Rows.as_mut_slice.Goals as goal

pub returns : goal.returns
returns g c =
    let kept : (w : List _) → _ = λ w. ap (λ n. record {
      items = take n (w ++ drop (length w) c.self.inside.rows.items);
      room = vec_capacity c.self.inside.rows - vec_len c.self.inside.rows;
    }) c.self.inside.rows.ok.0 in
    rw (← c.self.view_is) ((refl, kept), record { writes_back = tt; rows = c.as_mut_slice.ensures.value })
