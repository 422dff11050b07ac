use Rattle.std.proofs.Common.{◌≡◌, ◌∷◌, [], Some, rules}
use Rattle.sp_hall.proofs.Ends.{opens}
use Rattle.sp_hall.proofs.hall.open_table.Goals as goal

pub new-requires : goal.new-requires
new-requires g c =
    let items : c.push_reserved.new.self.items ≡ Some c.args.object ∷ [] = search rules in
    let about : c.of-about.result.value ≡ c.args.object = search rules in
    rw (items, about) (opens g.O.Object.shows c.args.object c.requires.counted c.requires.small)
