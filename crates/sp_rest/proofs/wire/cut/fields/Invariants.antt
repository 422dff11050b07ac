use Rattle.std.proofs.Common.{◌≡◌, map, take}
use Rattle.httparse.specs.Spans.{header_bytes}
use Rattle.sp_rest.specs.Wire.Request.{shown}
use Rattle.sp_rest.proofs.wire.cut.fields.Given as goal

abbrev pub invariant-loop-header : goal.invariant-loop-header
invariant-loop-header l = map shown l.fields.items ≡ map (header_bytes l.bytes) (take l.header-index l.headers)
