use Rattle.std.proofs.Common.{◌≡◌, ◌≤◌, ◌+◌, List, ℕ, length, take, drop, ◌∙◌, false, sym, ap, subst, arith, rules}
use Rattle.sp_disk.specs.declared.disk.File.TheVariants.{Journal}
use Rattle.sp_disk.proofs.LookedLemmas.{reads_same, told_still}
use Rattle.sp_journal.specs.Body.{IsBody}
use Rattle.sp_journal.specs.Survey.{FrameIs}
use Rattle.sp_journal.specs.declared.survey.Gate.{Gate}
use Rattle.sp_journal.specs.declared.survey.Gate.TheVariants.{Whole}
use Rattle.sp_journal.proofs.Walks.{frame_long, frame_whole, frame_hollow}
use Rattle.sp_journal.proofs.survey.gate_at.Goals as goal

pub returns-then-branch-clause-gate : goal.returns-then-branch-clause-gate
returns-then-branch-clause-gate g c told left =
    let old = c.args.disk.now in
    let mid = c.frame_at.new.disk in
    let at = c.args.place in
    let n = c.in-Whole.size in
    let body = c.body_at.new.into.items in
    let file = g.D.Disk.content old Journal in
    let looked = c.frame_at.ensures.looked in
    let same = reads_same g.D.Disk.tells g.D.Disk.content g.D.Disk.may_leave g.D.Disk.moment g.D.Disk.left_since old
    mid looked
    Journal in
    let still = told_still g.D.Disk.tells g.D.Disk.content g.D.Disk.may_leave g.D.Disk.moment g.D.Disk.left_since old
    mid
    looked told in
    let frame : FrameIs (Whole n) (drop at file) =
    subst (λ (gate : Gate). FrameIs gate (drop at file)) c.in-Whole.is (c.in-Ok.ensures.frame told left) in
    let long : at + 5 + n ≤ length (g.D.Disk.content mid Journal) =
    omega (arith, frame_long n at file frame, ap length same) in
    let read : body ≡ take n (drop (at + 5) file) =
    c.in_ok-body_at.ensures.bytes still long ∙ ap (λ (l : List ℕ). take n (drop (at + 5) l)) same in
    let is : IsBody body = (c.in_ok-body_at.ensures.body still long).0 (search rules) in
    frame_whole n at file frame body read is

pub returns-clause-gate : goal.returns-clause-gate
returns-clause-gate g c told left =
    let old = c.args.disk.now in
    let mid = c.frame_at.new.disk in
    let at = c.args.place in
    let n = c.in-Whole.size in
    let body = c.body_at.new.into.items in
    let file = g.D.Disk.content old Journal in
    let looked = c.frame_at.ensures.looked in
    let same = reads_same g.D.Disk.tells g.D.Disk.content g.D.Disk.may_leave g.D.Disk.moment g.D.Disk.left_since old
    mid looked
    Journal in
    let still = told_still g.D.Disk.tells g.D.Disk.content g.D.Disk.may_leave g.D.Disk.moment g.D.Disk.left_since old
    mid
    looked told in
    let frame : FrameIs (Whole n) (drop at file) =
    subst (λ (gate : Gate). FrameIs gate (drop at file)) c.in-Whole.is (c.in-Ok.ensures.frame told left) in
    let long : at + 5 + n ≤ length (g.D.Disk.content mid Journal) =
    omega (arith, frame_long n at file frame, ap length same) in
    let read : body ≡ take n (drop (at + 5) file) =
    c.in_ok-body_at.ensures.bytes still long ∙ ap (λ (l : List ℕ). take n (drop (at + 5) l)) same in
    let not : c.in_ok-body_at.field-0 ≡ false = search rules in
    let none : IsBody body → ⊥ = λ is. absurd (cc (sym not ∙ (c.in_ok-body_at.ensures.body still long).1 is)) in
    frame_hollow n at file frame body read none
