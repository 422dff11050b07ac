use Rattle.sp_journal.proofs.tests.heal_twice.Goals as goal

pub again-requires-clause-rests : goal.again-requires-clause-rests
again-requires-clause-rests g c =
    let was = c.requires.stands in
    (was.1, c.in-Ok.ensures.healed was.0 was.1 was.2)
