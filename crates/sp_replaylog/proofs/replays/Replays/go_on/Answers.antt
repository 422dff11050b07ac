use Rattle.std.proofs.Common.{◌∙◌, length, sym, subst, ap}
use Rattle.std.proofs.lemmas.List.{length-map}
use Rattle.sp_replaylog.specs.Replays.{AreReplays, MayGoOn, with_step}
use Rattle.sp_replaylog.proofs.Running.{after, may_step, stepped, written_over}
use Rattle.sp_replaylog.proofs.replays.Replays.go_on.Goals as goal
use Rattle.sp_replaylog.proofs.replays.Replays.go_on.Goals.{After-as_mut_slice}

may : (c : After-as_mut_slice) → MayGoOn c.args.endpoint c.args.next c.args.copies c.self.inside.rows.items
may c = subst (λ r. MayGoOn c.args.endpoint c.args.next c.args.copies r.items) (sym c.self.view_is) c.requires

pub go_on_among-requires : goal.go_on_among-requires
go_on_among-requires c =
    rw c.as_mut_slice.ensures.rows (λ k d lt same. (may_step c.args.endpoint c.args.next c.args.copies c.self.inside.rows.items c.self.invariant (may c) k d lt same).1)

pub invariant_of-self : goal.invariant_of-self
invariant_of-self c =
    let rows = c.self.inside.rows.items in
    let may = subst (λ r. MayGoOn c.args.endpoint c.args.next c.args.copies r.items) (sym c.self.view_is) c.requires in
    let are = c.go_on_among.ensures ∙ ap (with_step c.args.endpoint c.args.next c.args.copies) c.as_mut_slice.ensures.rows in
    let long = ap length are ∙ length-map rows (after c.args.endpoint c.args.next c.args.copies) in
    let written = written_over rows c.go_on_among.new.rows long ∙ are in
    subst AreReplays (sym written) (stepped c.args.endpoint c.args.next c.args.copies rows c.self.invariant may)
