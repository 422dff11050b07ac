use Rattle.std.proofs.Common.{ap, ◌∙◌, ◌-◌, ◌^◌, not, filter, min, List, None}
use Rattle.sp_copies.specs.declared.closed.ClosedCopy.{ClosedCopy}
use Rattle.sp_copies.specs.declared.made.MadeCopy.{MadeCopy}
use Rattle.sp_copies.specs.Counts.{used_in}
use Rattle.sp_copies.specs.History.{is_closed}
use Rattle.sp_copies.specs.Inside.{kept_in}
use Rattle.sp_copies.proofs.KeptLemmas.{kept_of}
use Rattle.sp_copies.proofs.Totals.{total-min}
use Rattle.sp_copies.proofs.copies.Copies.used_in_all.Goals as goal

pub returns : goal.returns
returns c H r =
    let s = kept_of (kept_in c.self.inside) c.args.self.now c.self.view_is H r in
    c.used_by_all.ensures ∙ (rw (c.as_slice.ensures, c.as_slice-2.ensures)
    (total-min (2 ^ 64 - 1)
    (filter (λ (x : MadeCopy). not (is_closed c.self.inside.closed.items x.number)) c.self.inside.made.items)
    ∙ (ap (λ (made : List MadeCopy). min
    (used_in (record H { made = made; closed = c.self.inside.closed.items }) None) (2 ^ 64 - 1)) s.made
    ∙ ap (λ (closed : List ClosedCopy). min (used_in (record H { closed = closed }) None) (2 ^ 64 - 1)) s.closed)))
