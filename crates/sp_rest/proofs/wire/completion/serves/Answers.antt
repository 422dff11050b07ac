use Rattle.std.proofs.Common.{rules, ◌≡◌, ◌++◌}
use Rattle.sp_rest.proofs.Requests.{served}
use Rattle.sp_rest.proofs.wire.completion.serves.Goals as goal

pub returns : goal.returns
returns c =
    let whole : c.as_slice.result.now ≡ c.args.bytes.now ++ c.args.text.now = search rules in
    served c.has_head.result _ _ _ whole c.has_head.ensures
