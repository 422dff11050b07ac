use Rattle.std.proofs.Common.{arith, rules, refl}
use Rattle.sp_copies.specs.History.{empty_history}
use Rattle.sp_copies.proofs.copies.Copies.new.Goals as goal

pub invariant_of-result : goal.invariant_of-result
invariant_of-result c = record {
  history = empty_history c.args.next;
  stands = record {
    made = c.new.ensures;
    closed = c.new-2.ensures;
    held = c.new-3.ensures;
    attempts = c.new-4.ensures;
    next = refl;
    sound = search rules;
  };
  to_make = omega arith;
  to_count = omega arith;
  to_close = omega arith;
  to_hold = omega arith;
}
