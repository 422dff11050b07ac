use Rattle.std.proofs.Common.{arith, rules}
use Rattle.httparse.specs.Grammar.{HasNoRequest}
use Rattle.sp_rest.proofs.Heads.{none_yet}
use Rattle.sp_rest.proofs.wire.head.read_head.Goals as goal

pub returns-else-bytes-lt-MOST-clause-never : goal.returns-else-bytes-lt-MOST-clause-never
returns-else-bytes-lt-MOST-clause-never c =
    let none : HasNoRequest c.args.bytes.now = search rules in
    none_yet _ none (let no = c.if-bytes-lt-MOST.false in omega arith)
