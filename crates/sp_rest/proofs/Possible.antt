-- What some bytes begin with keeps the limits.
use Rattle.std.proofs.Common.{arith, ◌≡◌, ◌≤◌, length, map, ap}
use Rattle.std.proofs.lemmas.List.{length-map}
use Rattle.httparse.specs.Spans.{name_and_value}
use Rattle.sp_rest.specs.Wire.Parts.{Request}
use Rattle.sp_rest.specs.Wire.Request.{IsPossible, shown}
use Rattle.sp_rest.proofs.Bounds.{body_small}

pub body_bound : (request : Request) → IsPossible request → length request.body ≤ 8388608
body_bound request (bytes, used, b) =
    let small = body_small (map name_and_value b.h.fields) (length b.body) b.head.body in
    let is : length request.body ≡ length b.body = ap length b.request_is.body_is in
    omega arith

pub fields_bound : (request : Request) → IsPossible request → length request.fields ≤ 64
fields_bound request (bytes, used, b) =
    let few = b.head.few in
    let same : length (map shown request.fields) ≡ length (map name_and_value b.h.fields) = ap length b.request_is.fields in
    omega (arith, length-map request.fields shown, length-map b.h.fields name_and_value)
