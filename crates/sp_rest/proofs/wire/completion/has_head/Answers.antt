use Rattle.sp_rest.proofs.Requests.{no_head_now}
use Rattle.sp_rest.proofs.wire.completion.has_head.Goals as goal

pub returns-in-Never : goal.returns-in-Never
returns-in-Never c = no_head_now c.args.bytes.now c.in-Never.ensures.never
