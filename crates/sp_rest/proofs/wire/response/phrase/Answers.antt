use Rattle.sp_rest.proofs.Codes.{three_digits}
use Rattle.sp_rest.proofs.wire.response.phrase.Goals as goal

pub returns-in-Err : goal.returns-in-Err
returns-in-Err c = absurd (c.in-Err.ensures (three_digits c.args.status c.requires))
