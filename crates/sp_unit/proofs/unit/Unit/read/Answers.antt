use Rattle.std.proofs.Common.{arith}
use Rattle.sp_unit.proofs.Units.{refused, told}
use Rattle.sp_unit.proofs.unit.Unit.read.Goals as goal

pub returns-clause-read : goal.returns-clause-read
returns-clause-read c = told c.args.bytes.now c.read_whole.result (λ i. omega (arith, c.type_inv.bytes i))
    c.read_whole.ensures

pub returns-clause-none : goal.returns-clause-none
returns-clause-none c = refused c.args.bytes.now c.read_whole.result c.read_whole.ensures
