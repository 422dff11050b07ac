use Rattle.std.proofs.Common.{◌==◌, ap, sym, ◌∙◌, count_by, List}
use Rattle.sp_copies.specs.declared.held.HeldCopy.{HeldCopy}
use Rattle.sp_copies.specs.Inside.{kept_in}
use Rattle.sp_copies.proofs.KeptLemmas.{kept_of}
use Rattle.sp_copies.proofs.Tallied.{held-counted}
use Rattle.sp_copies.proofs.copies.Copies.count_held_by.Goals as goal

pub returns : goal.returns
returns c H r =
    let s = kept_of (kept_in c.self.inside) c.args.self.now c.self.view_is H r in
    c.count_held_by.ensures
    ∙ (rw c.as_slice.ensures (ap (λ (hs : List HeldCopy). count_by (λ (h : HeldCopy). h.flow == c.args.flow) hs) s.held)
    ∙ sym (held-counted H r.sound c.args.flow))
