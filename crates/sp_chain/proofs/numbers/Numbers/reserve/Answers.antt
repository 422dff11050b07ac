use Rattle.sp_chain.proofs.numbers.Numbers.reserve.Goals as goal

pub returns-clause-keys : goal.returns-clause-keys
returns-clause-keys c n = rw (← c.self.view_is) (c.reserve.ensures.entries.2 n)
