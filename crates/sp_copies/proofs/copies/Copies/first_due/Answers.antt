use Rattle.std.proofs.Common.{◌∙◌, refl}
use Rattle.sp_copies.specs.Inside.{kept_in}
use Rattle.sp_copies.proofs.KeptLemmas.{kept_of}
use Rattle.sp_copies.proofs.copies.Copies.first_due.Goals as goal

pub returns : goal.returns
returns c H r =
    let s = kept_of (kept_in c.self.inside) c.args.self.now c.self.view_is H r in
    c.first_due.ensures ∙ (rw
    (c.as_slice.ensures, c.as_slice-2.ensures, c.as_slice-3.ensures, s.made, s.closed, s.held) refl)
