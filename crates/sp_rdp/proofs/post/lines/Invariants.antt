use Rattle.std.proofs.Common.{◌≡◌, take, string_bytes}
use Rattle.std.specs.List.{flat_map}
use Rattle.sp_rdp.specs.Post.{property_line}
use Rattle.sp_rdp.proofs.post.lines.Given as goal

abbrev pub invariant-loop-property : goal.invariant-loop-property
invariant-loop-property l = string_bytes l.lines ≡ flat_map property_line (take l.property-index l.properties)
