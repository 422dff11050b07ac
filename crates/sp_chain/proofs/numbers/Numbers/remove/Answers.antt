use Rattle.sp_chain.proofs.numbers.Numbers.remove.Goals as goal

pub returns-clause-keys : goal.returns-clause-keys
returns-clause-keys c n = rw (← c.self.view_is) (c.remove.ensures.updates.0 n)
