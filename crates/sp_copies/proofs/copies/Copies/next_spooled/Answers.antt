use Rattle.std.proofs.Common.{ap, sym, ◌∙◌, List, ℕ, option_map, nat_lt}
use Rattle.std.specs.List.{find}
use Rattle.sp_copies.specs.declared.made.MadeCopy.{MadeCopy}
use Rattle.sp_copies.specs.History.{is_open_in, next_spooled, History}
use Rattle.sp_copies.specs.Inside.{kept_in}
use Rattle.sp_copies.proofs.KeptLemmas.{kept_of}
use Rattle.sp_copies.proofs.Searches.{find-filter}
use Rattle.sp_copies.proofs.copies.Copies.next_spooled.Goals as goal

pub returns : goal.returns
returns c H r =
    let s = kept_of (kept_in c.self.inside) c.args.self.now c.self.view_is H r in
    c.next_spooled.ensures ∙ (rw (c.as_slice.ensures, c.as_slice-2.ensures, s.made, s.closed)
    (ap (option_map (λ (x : MadeCopy). x.number))
    (sym (find-filter {X = MadeCopy} (λ x. nat_lt c.args.after x.number)
    (is_open_in H.closed c.args.endpoint) H.made))))
