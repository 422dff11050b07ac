use Rattle.std.proofs.Common.{◌≤◌, length, subst}
use Rattle.sp_rest.specs.Wire.Parts as parts
use Rattle.sp_rest.proofs.Possible.{fields_bound}
use Rattle.sp_rest.proofs.wire.request.Request.fields.Goals as goal

pub returns-clause-bound : goal.returns-clause-bound
returns-clause-bound c = subst (λ (r : parts.Request). length r.fields ≤ 64) c.self.view_is (fields_bound _ c.self.invariant)
