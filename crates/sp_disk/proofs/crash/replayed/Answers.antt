use Rattle.std.proofs.Common.{◌≡◌, ◌+◌, ◌++◌, [], ◌∷◌, List, ℕ, take, drop, sym, ◌∙◌, ap, subst}
use Rattle.std.proofs.lemmas.List.{take_more, drop_more}
use Rattle.sp_disk.specs.declared.call.Taken.{Taken}
use Rattle.sp_disk.specs.Calls.{after_one, after_all, IsImage, LeavesOne}
use Rattle.sp_disk.specs.Picks.{Pick, pick_all}
use Rattle.sp_disk.specs.Replays.{picked_in}
use Rattle.sp_disk.proofs.Grown.{after_push, one_more}
use Rattle.sp_disk.proofs.crash.replayed.Goals as goal

pub loop-taken-preserved : goal.loop-taken-preserved
loop-taken-preserved c =
    let file = c.args.file in
    let number = c.args.number in
    let calls = c.args.calls.now in
    let at = c.loop-taken.taken-index in
    let first = c.args.first.now in
    let was = c.loop-taken.replay in
    let new = c.step.new.self in
    let seen : List Taken = take at calls in
    let taken : Taken = c.taken-item.result in
    let more : take (at + 1) calls ≡ seen ++ taken ∷ [] =
    take_more calls at taken c.loop-taken-test.true ∙ ap (λ (t : Taken). seen ++ t ∷ []) (sym c.taken-item.is) in
    let rest : drop at calls ≡ taken ∷ drop (at + 1) calls =
    drop_more calls at taken c.loop-taken-test.true ∙ ap (λ (t : Taken). t ∷ drop (at + 1) calls) (sym c.taken-item.is) in
    let step : LeavesOne file taken (after_all file seen first) was.image.items new.image.items =
    subst (λ (reads : List ℕ). LeavesOne file taken reads was.image.items new.image.items) c.loop-taken.invariant.reads c.in_ok-step.ensures.image in
    record {
      reads = c.in_ok-step.ensures.reads ∙ ap (λ (l : List ℕ). after_one file taken l) c.loop-taken.invariant.reads
          ∙ sym (after_push file seen taken first) ∙ ap (λ (l : List Taken). after_all file l first) (sym more);
      image = subst (λ (l : List Taken). IsImage file l first first new.image.items) (sym more)
          (one_more file seen taken first first was.image.items new.image.items c.loop-taken.invariant.image step);
      picked = ap (λ (l : List ℕ). pick_all number file (drop (at + 1) calls) l (picked_in new)) c.in_ok-step.ensures.reads
          ∙ ap (λ (p : Pick). pick_all number file (drop (at + 1) calls) (after_one file taken was.reads.items) p) c.in_ok-step.ensures.picked
          ∙ ap (λ (l : List Taken). pick_all number file l was.reads.items (picked_in was)) (sym rest)
          ∙ c.loop-taken.invariant.picked;
    }
