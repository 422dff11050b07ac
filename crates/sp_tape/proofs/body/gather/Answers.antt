use Rattle.std.proofs.Common.{◌<◌, length, ◌+◌, arith, refl, subst, sym, ◌∙◌}
use Rattle.sp_tape.specs.Gathering.{ComesBehind, read_so_far}
use Rattle.sp_tape.proofs.Bodies.{closes, ends_within, no_further_more, reads_more}
use Rattle.sp_tape.proofs.body.gather.Goals as goal

pub returns-then-len-size-clause-comes : goal.returns-then-len-size-clause-comes
returns-then-len-size-clause-comes g c room fits =
    let i = c.loop.invariant in
    let start = read_so_far c.args.head c.args.body.items c.args.waiting.now.items in
    let left = g.S.Source.left c.args.source.now in
    let now = g.S.Source.left c.loop.source in
    subst (λ next. ComesBehind room left now start c.loop.waiting.items next) (sym c.close.ensures)
    (closes c.args.head c.args.used c.loop.body.items c.loop.waiting.items i.begun room fits left now start i.reads
    (i.no_further room fits) (omega arith))

pub returns-in-End-clause-comes : goal.returns-in-End-clause-comes
returns-in-End-clause-comes g c room fits =
    let i = c.loop.invariant in
    let start = read_so_far c.args.head c.args.body.items c.args.waiting.now.items in
    let left = g.S.Source.left c.args.source.now in
    let now = g.S.Source.left c.loop.source in
    let within = i.begun.shared.within in
    let fills = c.in-End.ensures.fills in
    ends_within c.args.head c.args.used c.loop.body.items c.loop.waiting.items i.begun room fits left now start
    i.reads (i.no_further room fits) (g.S.Source.left c.read_body.new.source) c.read_body.new.waiting.items
    (omega arith) fills.0 fills.2

pub loop-preserved : goal.loop-preserved
loop-preserved g c =
    let i = c.loop.invariant in
    let start = read_so_far c.args.head c.args.body.items c.args.waiting.now.items in
    let left = g.S.Source.left c.args.source.now in
    let now = g.S.Source.left c.loop.source in
    let within = i.begun.shared.within in
    let fills = c.in-More.ensures.fills in
    let lacks : length c.loop.body.items < c.args.head.len + 1 = omega arith in
    record {
      begun = record { says = c.requires.says; used_is = c.requires.used_is; shared = c.in-More.ensures.shared refl };
      reads = reads_more c.args.head c.args.used c.loop.body.items c.loop.waiting.items i.begun left now
          (g.S.Source.left c.read_body.new.source) start fills.0 c.read_body.new.body.items
          c.read_body.new.waiting.items lacks fills.2 i.reads fills.1;
      no_further = λ room fits _. no_further_more c.args.head c.args.used c.loop.body.items c.loop.waiting.items
          i.begun room fills.0 c.read_body.new.body.items c.read_body.new.waiting.items fits lacks fills.2 fills.3;
      same = c.read_body.ensures.no_fault (λ e. absurd (cc (e, c.in-More.is))) ∙ i.same;
    }
