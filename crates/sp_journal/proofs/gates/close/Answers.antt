use Rattle.std.proofs.Common.{◌≡◌, IsTrue, ap, ◌∙◌, subst, sym, refl, inl, inr, List, ℕ, rules}
use Rattle.sp_disk.specs.Disk.{Folder, Telling, Torn}
use Rattle.sp_disk.specs.declared.disk.File.TheVariants.{Journal}
use Rattle.sp_disk.proofs.EverywhereLemmas.{followed, reaches, reaches_none}
use Rattle.sp_disk.proofs.LookedLemmas.{adds_none_and_looks}
use Rattle.sp_journal.specs.Closing.{IsClosedAt, MayClose}
use Rattle.sp_journal.proofs.Closes.{closed_written, closes_on}
use Rattle.sp_journal.proofs.gates.close.Goals as goal

pub returns-then-closed-clause-closed : goal.returns-then-closed-clause-closed
returns-then-closed-clause-closed g c told =
    let here = g.D.Disk.content c.args.disk.now Journal in
    let same : g.D.Disk.content c.is_closed.new.disk Journal ≡ here =
    ap (λ (f : Folder). f Journal) (c.is_closed.ensures.looked.same_content ∙ c.sync.ensures.content) in
    let closed : IsClosedAt c.args.at here = search rules in
    same ∙ closed_written c.args.at here closed

pub returns-in_err-put-clause-moments : goal.returns-in_err-put-clause-moments
returns-in_err-put-clause-moments g c vouches =
    let old = c.args.disk.now in
    let at = c.args.at in
    let here = g.D.Disk.content old Journal in
    let told : IsTrue (g.D.Disk.tells c.sync.new.self).content =
    subst (λ (t : Telling). IsTrue t.content) (sym c.sync.ensures.telling) vouches.content in
    let honest : IsTrue (g.D.Disk.tells c.is_closed.new.disk).honest = subst (λ (t : Telling). IsTrue t.honest)
    (sym (c.is_closed.ensures.looked.same_telling ∙ c.sync.ensures.telling)) vouches.honest in
    let shown : ¬ IsClosedAt at here = search rules in
    let begun = reaches_none g.D.Disk.moment g.D.Disk.left_since Journal old c.is_closed.new.disk
    (g.D.Disk.may_leave old)
    (λ (a : List ℕ) (b : List ℕ). b ≡ a) (λ bytes. refl)
    (adds_none_and_looks g.D.Disk.tells g.D.Disk.content g.D.Disk.may_leave g.D.Disk.moment g.D.Disk.left_since
    g.met.D.Disk.only_now old c.sync.new.self c.is_closed.new.disk c.sync.ensures.images c.sync.ensures.time
    c.is_closed.ensures.looked) in
    let wrote = reaches g.D.Disk.moment g.D.Disk.left_since Journal c.is_closed.new.disk c.put.new.disk
    (g.D.Disk.may_leave c.is_closed.new.disk) (λ (bytes : List ℕ). bytes ≡ here) (Torn at 1) (MayClose at here)
    (λ image left. c.in_ok-sync.ensures.durable vouches.honest image
    (c.is_closed.ensures.looked.same_images.none_new image left))
    (λ a b is torn. inr (is, subst (λ (l : List ℕ). ¬ IsClosedAt at l) (sym is) shown, torn))
    (c.put.ensures.moments honest) in
    followed g.D.Disk.moment g.D.Disk.left_since g.D.Disk.may_leave Journal g.met.D.Disk.counts_now old
    c.is_closed.new.disk
    c.put.new.disk (λ (a : List ℕ) (b : List ℕ). b ≡ a) (MayClose at here) (MayClose at here) (λ a b same. inl same)
    (closes_on at here) begun wrote

pub returns-clause-moments : goal.returns-clause-moments
returns-clause-moments g c vouches =
    let old = c.args.disk.now in
    let at = c.args.at in
    let here = g.D.Disk.content old Journal in
    let told : IsTrue (g.D.Disk.tells c.sync.new.self).content =
    subst (λ (t : Telling). IsTrue t.content) (sym c.sync.ensures.telling) vouches.content in
    let honest : IsTrue (g.D.Disk.tells c.is_closed.new.disk).honest = subst (λ (t : Telling). IsTrue t.honest)
    (sym (c.is_closed.ensures.looked.same_telling ∙ c.sync.ensures.telling)) vouches.honest in
    let shown : ¬ IsClosedAt at here = search rules in
    let begun = reaches_none g.D.Disk.moment g.D.Disk.left_since Journal old c.is_closed.new.disk
    (g.D.Disk.may_leave old)
    (λ (a : List ℕ) (b : List ℕ). b ≡ a) (λ bytes. refl)
    (adds_none_and_looks g.D.Disk.tells g.D.Disk.content g.D.Disk.may_leave g.D.Disk.moment g.D.Disk.left_since
    g.met.D.Disk.only_now old c.sync.new.self c.is_closed.new.disk c.sync.ensures.images c.sync.ensures.time
    c.is_closed.ensures.looked) in
    let wrote = reaches g.D.Disk.moment g.D.Disk.left_since Journal c.is_closed.new.disk c.put.new.disk
    (g.D.Disk.may_leave c.is_closed.new.disk) (λ (bytes : List ℕ). bytes ≡ here) (Torn at 1) (MayClose at here)
    (λ image left. c.in_ok-sync.ensures.durable vouches.honest image
    (c.is_closed.ensures.looked.same_images.none_new image left))
    (λ a b is torn. inr (is, subst (λ (l : List ℕ). ¬ IsClosedAt at l) (sym is) shown, torn))
    (c.put.ensures.moments honest) in
    followed g.D.Disk.moment g.D.Disk.left_since g.D.Disk.may_leave Journal g.met.D.Disk.counts_now old
    c.is_closed.new.disk
    c.put.new.disk (λ (a : List ℕ) (b : List ℕ). b ≡ a) (MayClose at here) (MayClose at here) (λ a b same. inl same)
    (closes_on at here) begun wrote
