use Rattle.std.proofs.Common.{◌≡◌, drop, map, codes}
use Rattle.std.specs.List.{list_any}
use Rattle.httparse.specs.Spans.{header_bytes}
use Rattle.sp_rest.specs.Wire.Request.{is_named}
use Rattle.sp_rest.proofs.wire.length.has_encoding.Given as goal

abbrev pub invariant-loop-header : goal.invariant-loop-header
invariant-loop-header l =
    list_any (is_named (codes "transfer-encoding")) (map (header_bytes l.bytes) (drop l.header-index l.headers))
    ≡ list_any (is_named (codes "transfer-encoding")) (map (header_bytes l.bytes) l.headers)
