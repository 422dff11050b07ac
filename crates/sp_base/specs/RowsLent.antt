-- Rows that are lent to be changed where they stand.
use Rattle.std.specs.Prelude.{List, length, take, drop, ◌++◌}
use Rattle.std.specs.Borrow.{Lends, MutBor, Fml, RattleType, Array}
use Rattle.sp_base.specs.Rows.{Roomy}
use Rattle.sp_base.specs.contracts.rows.Rows.{the_row}

-- rows with these written over them, from the first on; a loan has as many as there are
abbrev pub overwritten : {X : Type 0} → List X → List X → List X
overwritten rows written = take (length rows) (written ++ drop (length written) rows)

module _ (T : RattleType) where
  -- once the loan ends, the rows are those that were left behind it, with the same room
  abbrev pub lends_rows : MutBor (Roomy T.Denot) → MutBor (List T.Denot) → Fml
  lends_rows s r = Lends (the_row T) (Array T 0) s r (λ items. record s.now { items = overwritten s.now.items items })
