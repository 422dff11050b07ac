use Rattle.std.proofs.Common.{arith}
use Rattle.sp_txn.proofs.Totals.{added_part, taken_part}
use Rattle.sp_txn.proofs.sheet.Sheet.used.Goals as goal

pub added_in-requires : goal.added_in-requires
added_in-requires c = rw c.as_slice-notes.ensures (
    omega (arith, added_part c.args.endpoint c.self.inside.notes.items, c.self.invariant.added))

pub overflow_add-result : goal.overflow_add-result
overflow_add-result c =
    let sum = rw c.as_slice-notes.ensures at c.added_in.ensures in
    omega (arith, sum, c.requires.before, added_part c.args.endpoint c.self.inside.notes.items, c.self.invariant.added)

pub taken_in-requires : goal.taken_in-requires
taken_in-requires c = rw c.as_slice-notes.ensures (
    omega (arith, taken_part c.args.endpoint c.self.inside.notes.items, c.self.invariant.taken))
