use Rattle.std.proofs.Common.{List, ◌∙◌, sym, subst, ℕ}
use Rattle.sp_tape.specs.Parse.{ParsesLine}
use Rattle.sp_tape.specs.Reading.{Reads, IsReadWhileUnfinished}
use Rattle.sp_tape.specs.declared.parse.Parsed.TheVariants.{Short, Bad}
use Rattle.sp_tape.proofs.Fronts.{one_read_behind, refused_for_good}
use Rattle.sp_tape.proofs.Known.{reads_on}
use Rattle.sp_tape.proofs.reader.next_line.Goals as goal

pub returns-in-Ok-Bad-clause-comes : goal.returns-in-Ok-Bad-clause-comes
returns-in-Ok-Bad-clause-comes g c room =
    let bad = subst (λ (bytes : List ℕ). ParsesLine bytes Bad) c.as_slice.ensures.value
    (rw c.in-Ok-Bad.field-0-is at c.in-Ok-Bad.ensures) in
    let why = bad.1 room in
    let left = g.S.Source.left c.loop.source in (
      c.loop.waiting.items,
      c.loop.invariant.reads,
      refused_for_good room left c.loop.waiting.items bad.0 why.0 why.1,
      c.loop.invariant.no_further room,
    )

pub loop-preserved : goal.loop-preserved
loop-preserved g c =
    let short = subst (λ (bytes : List ℕ). ParsesLine bytes Short) c.as_slice.ensures.value
    (rw c.in-Ok-Short.field-0-is at c.in-Ok-Short.ensures) in
    let fills = c.in-More.ensures.fills in
    record {
      reads = subst (Reads (g.S.Source.left c.args.source.now) (g.S.Source.left c.read_more.new.source)
          c.args.waiting.now.items) (sym fills.2) (reads_on _ _ _ _ _ fills.0 c.loop.invariant.reads fills.1);
      no_further = λ room first. subst (IsReadWhileUnfinished room) (sym fills.2)
          (one_read_behind room c.loop.waiting.items fills.0 (short room) fills.3);
      same = c.read_more.ensures.no_fault (λ e. absurd (cc (e, c.in-More.is))) ∙ c.loop.invariant.same;
    }
