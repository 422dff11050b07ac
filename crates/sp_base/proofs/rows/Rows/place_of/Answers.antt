use Rattle.sp_base.proofs.Places.{found_place}
use Rattle.sp_base.proofs.rows.Rows.place_of.Goals as goal

pub returns : goal.returns
returns g c keys computes =
    rw (c.ok.ensures.value, ← c.self.view_is, ← c.deref.ensures.value)
    (found_place keys c.args.key c.deref.result.now c.binary_search_by_key.result c.binary_search_by_key.ensures.bound (c.binary_search_by_key.ensures.position keys computes))
