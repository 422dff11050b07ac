use Rattle.std.proofs.Common.{◌∙◌, ap, take}
use Rattle.sp_copies.proofs.Deadlines.{placed-there}
use Rattle.sp_copies.proofs.due.place.Goals as goal

pub returns : goal.returns
returns c = c.truncate.ensures.items ∙
    ap (take c.args.most) (rw
    (c.in_ok-insert.ensures.items, c.place_of-place.ensures.place, c.as_slice.ensures.value)
    (placed-there c.args.copy c.args.copies.now.items))
