use Rattle.sp_rest.proofs.Bounds.{partial_short}
use Rattle.sp_rest.proofs.Requests.{found_is, never_is, used_within}
use Rattle.sp_rest.proofs.wire.cut.cut.Goals as goal

pub returns-in-Ok-clause-found : goal.returns-in-Ok-clause-found
returns-in-Ok-clause-found c = found_is c.args.bytes.now c.in-Ok.cut c.in-Ok.ensures.whole c.in-Ok.ensures.none_yet c.in-Ok.ensures.hopeless

pub returns-in-Ok-clause-never : goal.returns-in-Ok-clause-never
returns-in-Ok-clause-never c = never_is c.args.bytes.now c.in-Ok.cut c.in-Ok.ensures.whole c.in-Ok.ensures.partial

pub returns-in-Ok-clause-within : goal.returns-in-Ok-clause-within
returns-in-Ok-clause-within c = used_within c.args.bytes.now c.in-Ok.cut c.in-Ok.ensures.whole

pub returns-in-Ok-clause-bounded : goal.returns-in-Ok-clause-bounded
returns-in-Ok-clause-bounded c = partial_short c.args.bytes.now c.in-Ok.cut c.in-Ok.ensures.none_yet c.in-Ok.ensures.partial
