use Rattle.std.proofs.Common.{◌≡◌, ◌++◌, length, drop, map, codes}
use Rattle.std.specs.Prelude.{IfSome}
use Rattle.std.specs.Option.{option_to_list}
use Rattle.std.specs.List.{filter}
use Rattle.httparse.specs.Spans.{header_bytes, IsHeaderWithin}
use Rattle.sp_rest.specs.Wire.Request.{is_named}
use Rattle.sp_rest.proofs.wire.length.given_length.Given as goal

abbrev pub invariant-loop-header : goal.invariant-loop-header
invariant-loop-header l = record {
  found : map (header_bytes l.bytes) (option_to_list l.given)
      ++ filter (is_named (codes "content-length")) (map (header_bytes l.bytes) (drop l.header-index l.headers))
      ≡ filter (is_named (codes "content-length")) (map (header_bytes l.bytes) l.headers);
  within : IfSome l.given (IsHeaderWithin (length l.bytes));
}
