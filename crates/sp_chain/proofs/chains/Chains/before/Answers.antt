use Rattle.sp_chain.proofs.chains.Chains.before.Goals as goal

pub returns : goal.returns
returns g c L s other =
    let st = rw (← c.self.view_is) at s in
    rw c.before_of.ensures (st.linked.before c.args.key other)
