use Rattle.std.proofs.Common.{◌≡◌, ◌++◌, ◌∷◌, length, take, All}
use Rattle.std.specs.List.{flat_map}
use Rattle.sp_message.proofs.codec.write_list.Given as goal

abbrev pub invariant-loop-item : goal.invariant-loop-item
invariant-loop-item g l = record {
  bytes : l.into.items ≡ l.fn.into.items ++ (length l.items ∷ flat_map g.C.Codec.bytes_of (take l.item-index l.items));
  valid : All g.C.Codec.valid (take l.item-index l.items);
}
