use Rattle.sp_tape.proofs.reader.next_entry.Goals as goal

pub returns-in-Found-clause-comes : goal.returns-in-Found-clause-comes
returns-in-Found-clause-comes g c =
    let found = c.in-Found.ensures.comes in
    c.rest_of_entry.ensures.comes (g.S.Source.left c.args.source.now) c.args.waiting.now.items found.1
    (found.2 c.args.room)
