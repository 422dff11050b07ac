use Rattle.sp_copies.specs.declared.made.MadeCopy.{MadeCopy}
use Rattle.sp_ending.proofs.OnWay.{IsOnWay, after, goes_on, next_fits, next_may, sets_out}
use Rattle.sp_ending.proofs.Steps.{ending_step}
use Rattle.sp_ending.specs.Drafts.{DraftView, HasPlace, and_ended}
use Rattle.sp_ending.specs.Ends.{MayEnd}
use Rattle.sp_ledger.specs.Endings.{ending}
use Rattle.std.proofs.Common.{[], ap, subst, sym, take, ◌∙◌}
use Rattle.sp_ending.proofs.ended.all_ended.Goals as goal

pub loop-copy-init : goal.loop-copy-init
loop-copy-init c L tabled may =
    subst (λ (d : DraftView). IsOnWay (ending c.args.why) MayEnd L [] c.args.list.now d) (sym c.new-draft.ensures)
    (sets_out (ending c.args.why) MayEnd (λ K x ends. ends) L c.args.list.now may c.next.result
    (c.next.ensures L.copies tabled.copies))

pub end-requires-clause-may : goal.end-requires-clause-may
end-requires-clause-may c =
    let why = c.args.why in
    let way = c.loop-copy.invariant c.requires.0 c.requires.1 c.requires.2 in (
      c.requires.0,
      after (ending c.args.why) (take c.loop-copy.copy-index c.args.list.now) c.requires.0,
      c.requires.1,
      way.reaches,
      subst (MayEnd (after (ending c.args.why) (take c.loop-copy.copy-index c.args.list.now) c.requires.0))
          (sym c.copy-item.is)
          (next_may (ending why) MayEnd (and_ended why) (ending_step why) c.requires.0 c.args.list.now
          c.loop-copy.copy-index c.copy-item.result c.loop-copy-test.true c.loop-copy.draft way),
    )

pub end-requires-clause-place : goal.end-requires-clause-place
end-requires-clause-place c =
    let why = c.args.why in
    let way = c.loop-copy.invariant c.requires.0 c.requires.1 c.requires.2 in
    subst (λ (x : MadeCopy). HasPlace x c.loop-copy.draft) (sym c.copy-item.is)
    (next_fits (ending why) MayEnd (and_ended why) (ending_step why) c.requires.0 c.args.list.now c.loop-copy.copy-index
    c.copy-item.result c.loop-copy-test.true c.loop-copy.draft way)

pub loop-copy-preserved : goal.loop-copy-preserved
loop-copy-preserved c L tabled may =
    let why = c.args.why in
    let way = c.loop-copy.invariant L tabled may in
    goes_on (ending why) MayEnd (and_ended why) (ending_step why) L c.args.list.now c.loop-copy.copy-index
    c.copy-item.result c.loop-copy-test.true c.loop-copy.draft way c.end.new.self
    (c.in_ok-end.ensures L (after (ending c.args.why) (take c.loop-copy.copy-index c.args.list.now) L) tabled
    way.reaches
    ∙ ap (λ (x : MadeCopy). and_ended c.args.why x
    (after (ending c.args.why) (take c.loop-copy.copy-index c.args.list.now) L) c.loop-copy.draft) c.copy-item.is)
