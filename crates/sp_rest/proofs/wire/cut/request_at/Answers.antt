-- The parts that were copied are those of the head, and so a request.
use Rattle.std.proofs.Common.{rules, ◌≡◌, ◌+◌, ℕ, List, length, drop, map, subst, sym}
use Rattle.httparse.specs.Spans.{name_and_value}
use Rattle.sp_rest.specs.Wire.Parts.{Request}
use Rattle.sp_rest.specs.Wire.Request.{Begins, IsHead, shown}
use Rattle.sp_rest.proofs.Requests.{parts_begin}
use Rattle.sp_rest.proofs.wire.cut.request_at.Goals as goal

pub of-requires-3 : goal.of-requires-3
of-requires-3 c =
    let h = c.requires.head.0 in
    let spans = c.requires.head.2 in
    let request : Request = record {
      method = c.in_ok-method.method;
      target = c.in_ok-target.target;
      fields = c.in_ok-fields.fields;
      body = c.in_ok-body.body;
    } in
    let method : request.method ≡ h.method = search (rules, spans.method) in
    let target : request.target ≡ h.target = search (rules, spans.path) in
    let fields : map shown request.fields ≡ map name_and_value h.fields = search (rules, spans.fields) in
    let head : IsHead c.args.bytes.now h (length request.body) (drop c.args.spans.len c.args.bytes.now) = search rules in
    (c.args.bytes.now, c.args.spans.len + length request.body, parts_begin _ h _ request head spans.len method target fields (search rules))

pub returns : goal.returns
returns c =
    let h = c.requires.head.0 in
    let spans = c.requires.head.2 in
    let bytes = c.args.bytes.now in
    let request : Request = record {
      method = c.in_ok-method.method;
      target = c.in_ok-target.target;
      fields = c.in_ok-fields.fields;
      body = c.in_ok-body.body;
    } in
    let method : request.method ≡ h.method = search (rules, spans.method) in
    let target : request.target ≡ h.target = search (rules, spans.path) in
    let fields : map shown request.fields ≡ map name_and_value h.fields = search (rules, spans.fields) in
    let head : IsHead bytes h (length request.body) (drop c.args.spans.len bytes) = search rules in
    let begun = parts_begin bytes h c.args.spans.len request head spans.len method target fields (search rules) in
    let same : request.body ≡ c.args.body.now = search rules in
    let told : Begins bytes request (c.args.spans.len + length c.args.body.now) =
    subst (λ (t : List ℕ). Begins bytes request (c.args.spans.len + length t)) same begun in
    subst (λ (r : Request). Begins bytes r (c.args.spans.len + length c.args.body.now)) (sym c.of-3.ensures) told
