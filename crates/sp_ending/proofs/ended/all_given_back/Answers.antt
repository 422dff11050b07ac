use Rattle.sp_copies.specs.declared.made.MadeCopy.{MadeCopy}
use Rattle.sp_ending.proofs.OnWay.{IsOnWay, after, goes_on, next_fits, next_may, sets_out}
use Rattle.sp_ending.proofs.Steps.{returning_step}
use Rattle.sp_ending.specs.Drafts.{DraftView, HasPlace, and_returned}
use Rattle.sp_ending.specs.Ends.{MayReturn}
use Rattle.sp_ledger.specs.Endings.{returning}
use Rattle.std.proofs.Common.{[], ap, subst, sym, take, ◌∙◌}
use Rattle.sp_ending.proofs.ended.all_given_back.Goals as goal

pub loop-copy-init : goal.loop-copy-init
loop-copy-init c L tabled may =
    subst (λ (d : DraftView). IsOnWay returning MayReturn L [] c.args.list.now d) (sym c.new-draft.ensures)
    (sets_out returning MayReturn (λ K x held. held.0) L c.args.list.now may c.next.result
    (c.next.ensures L.copies tabled.copies))

pub give_back-requires-clause-may : goal.give_back-requires-clause-may
give_back-requires-clause-may c =
    let way = c.loop-copy.invariant c.requires.0 c.requires.1 c.requires.2 in (
      c.requires.0,
      after returning (take c.loop-copy.copy-index c.args.list.now) c.requires.0,
      c.requires.1,
      way.reaches,
      subst (MayReturn (after returning (take c.loop-copy.copy-index c.args.list.now) c.requires.0))
          (sym c.copy-item.is)
          (next_may returning MayReturn and_returned returning_step c.requires.0 c.args.list.now
          c.loop-copy.copy-index c.copy-item.result c.loop-copy-test.true c.loop-copy.draft way),
    )

pub give_back-requires-clause-place : goal.give_back-requires-clause-place
give_back-requires-clause-place c =
    let way = c.loop-copy.invariant c.requires.0 c.requires.1 c.requires.2 in
    subst (λ (x : MadeCopy). HasPlace x c.loop-copy.draft) (sym c.copy-item.is)
    (next_fits returning MayReturn and_returned returning_step c.requires.0 c.args.list.now c.loop-copy.copy-index
    c.copy-item.result c.loop-copy-test.true c.loop-copy.draft way)

pub loop-copy-preserved : goal.loop-copy-preserved
loop-copy-preserved c L tabled may =
    let way = c.loop-copy.invariant L tabled may in
    goes_on returning MayReturn and_returned returning_step L c.args.list.now c.loop-copy.copy-index
    c.copy-item.result c.loop-copy-test.true c.loop-copy.draft way c.give_back.new.self
    (c.in_ok-give_back.ensures L (after returning (take c.loop-copy.copy-index c.args.list.now) L) tabled way.reaches
    ∙ ap (λ (x : MadeCopy). and_returned x
    (after returning (take c.loop-copy.copy-index c.args.list.now) L) c.loop-copy.draft) c.copy-item.is)
