use Rattle.std.proofs.Common.{ℕ, List, arith, subst}
use Rattle.sp_tape.proofs.Bodies.{beyond_room, line_short, same_bytes}
use Rattle.sp_tape.specs.Gathering.{ComesBehind}
use Rattle.sp_tape.proofs.body.rest_of_entry.Goals as goal

pub overflow_add-size : goal.overflow_add-size
overflow_add-size g c = let short = line_short c.args.line.head c.requires.says in omega arith

pub overflow_add-used : goal.overflow_add-used
overflow_add-used g c =
    let short = line_short c.args.line.head c.requires.says in
    let len = c.requires.len in
    omega arith

pub returns-then-used-room-clause-comes : goal.returns-then-used-room-clause-comes
returns-then-used-room-clause-comes g c =
    let waits = c.args.waiting.now.items in
    beyond_room c.args.room (g.S.Source.left c.args.source.now) waits waits c.args.line c.requires (omega arith)

pub returns-in-Ok-clause-comes : goal.returns-in-Ok-clause-comes
returns-in-Ok-clause-comes g c =
    let same = same_bytes c.args.waiting.now.items c.args.line c.in-Ok.body.items c.begin.new.waiting.items c.requires
    c.in-Ok.ensures.joined in
    subst (λ (read : List ℕ). ComesBehind c.args.room (g.S.Source.left c.args.source.now)
    (g.S.Source.left c.gather.new.source) read c.gather.new.waiting.items c.gather.result) same
    (c.gather.ensures.comes c.args.room (omega arith))
