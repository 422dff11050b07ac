use Rattle.std.proofs.Common.{◌<◌, List, ℕ, length, subst}
use Rattle.sp_rest.proofs.Requests.{no_request_yet, may_become, rest_is}
use Rattle.sp_rest.proofs.wire.cut.with_body.Goals as goal

pub returns-then-rest-body-clause-none_yet : goal.returns-then-rest-body-clause-none_yet
returns-then-rest-body-clause-none_yet c =
    let head = c.requires.head in
    let e = rest_is c.args.bytes.now c.args.spans.len in
    no_request_yet _ head.0 _ _ head.1 (subst (λ (t : List ℕ). length t < c.args.body) e c.if-rest-body.true)

pub returns-then-rest-body-clause-partial : goal.returns-then-rest-body-clause-partial
returns-then-rest-body-clause-partial c =
    let head = c.requires.head in
    may_become _ head.0 _ _ head.1
