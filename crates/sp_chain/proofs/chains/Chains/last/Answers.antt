use Rattle.std.proofs.Common.{◌≡◌, ap, ◌∙◌}
use Rattle.sp_chain.specs.Links.{end_at}
use Rattle.sp_chain.proofs.chains.Chains.last.Goals as goal

pub returns : goal.returns
returns g c L s key =
    let st = rw (← c.self.view_is) at s in
    let ends = c.self.inside.ends.items in
    let mine : c.ends_of.result ≡ end_at ends c.args.chain = c.ends_of.ensures ∙ ap (λ es. end_at es c.args.chain) c.deref.ensures.value in
    rw mine (st.linked.last c.args.chain key)
