use Rattle.std.proofs.Common.{◌≡◌, ◌-◌}
use Rattle.sp_message.specs.Decoding.{items_at}
use Rattle.sp_message.proofs.OneByOne.{with_front}
use Rattle.sp_message.proofs.codec.read_items.Given as goal

abbrev pub invariant-loop : goal.invariant-loop
invariant-loop g l = with_front l.items.items (items_at g.C.Codec.read_at (l.count - l.counter) l.rest) ≡ items_at g.C.Codec.read_at l.count l.bytes
