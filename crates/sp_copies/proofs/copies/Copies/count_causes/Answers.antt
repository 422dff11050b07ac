use Rattle.std.proofs.Common.{ap, ◌∙◌, List}
use Rattle.sp_copies.specs.declared.closed.ClosedCopy.{ClosedCopy}
use Rattle.sp_copies.specs.declared.made.MadeCopy.{MadeCopy}
use Rattle.sp_copies.specs.Counts.{causes_in}
use Rattle.sp_copies.specs.History.{History}
use Rattle.sp_copies.specs.Inside.{kept_in}
use Rattle.sp_copies.proofs.KeptLemmas.{kept_of}
use Rattle.sp_copies.proofs.copies.Copies.count_causes.Goals as goal

pub returns : goal.returns
returns c H r =
    let s = kept_of (kept_in c.self.inside) c.args.self.now c.self.view_is H r in
    c.from_vec.ensures ∙ (c.in_ok-counts.ensures ∙ (rw (c.as_slice.ensures, c.as_slice-2.ensures)
    (ap (λ (made : List MadeCopy). causes_in
    (record H { made = made; closed = c.self.inside.closed.items }) c.args.endpoint) s.made
    ∙ ap (λ (closed : List ClosedCopy). causes_in (record H { closed = closed }) c.args.endpoint) s.closed)))
