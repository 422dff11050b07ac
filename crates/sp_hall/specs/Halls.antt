-- Which hall it is.
use Rattle.atomic_table.specs.Seated.{TableId}
use Rattle.sp_hall.specs.declared.object.Shown.{Shown}

-- a hall's table, and what its object showed when the hall was made
pub record HallId (E S : Type 0) : Type 0 where
  pub table : TableId
  pub opened : Shown E S
