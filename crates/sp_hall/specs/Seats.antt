-- A pass by its seat.
use Rattle.std.specs.Prelude.{◌≡◌, ℕ, ◌+◌, ◌<◌, [], false, true}
use Rattle.atomic_table.specs.Seated.{TableId}
use Rattle.atomic_table.specs.Table.{Me}
use Rattle.sp_hall.specs.Passes.{Known}
use Rattle.sp_hall.specs.States.{IsCounted, Leads}
use Rattle.sp_hall.specs.declared.object.Shown.{Shown}
use Rattle.sp_hall.specs.declared.seat.View.{View}

-- a hall's table has two words and one slot
abbrev pub IsHallTable : TableId → Type 0
IsHallTable table = (table.words ≡ 2) × (table.slots ≡ 1)

module _ {E S : Type 0} where
  -- what the pass knows whose seat has this view
  abbrev pub known_of : TableId → View E S → Known E S
  known_of table v = record { hall = record { table = table; opened = v.opened }; parts = v.parts; seen = v.seen; made = v.made }

  -- between two calls a seat carries nothing and has no ticket, and the pass's two numbers are the view's
  pub record IsAtRest {X : Type 0} (me : Me X (View E S)) (count raised : ℕ) : Type 0 where
    pub carries : me.1 ≡ []
    pub idle : me.0.drawn ≡ false
    pub turn : me.0.turn ≡ false
    pub part : 0 < me.0.parts
    pub opened : Leads me.0.opened me.0.seen
    pub counted : IsCounted me.0.seen
    pub seen : me.0.seen.count ≡ count
    pub made : me.0.made ≡ raised

  -- a seat that waits for the turn of its ticket
  pub record Waits {X : Type 0} (me : Me X (View E S)) (number : ℕ) : Type 0 where
    pub carries : me.1 ≡ []
    pub drawn : me.0.drawn ≡ true
    pub turn : me.0.turn ≡ false
    pub ticket : me.0.ticket ≡ number
    pub part : 0 < me.0.parts

  -- the object as it is in the end, where one view has all parts
  pub record IsLast (start : Shown E S) (v : View E S) (last : Shown E S) : Type 0 where
    pub seen : Leads v.seen last
    pub count : last.count ≡ start.count + v.made
    pub later : Leads start last
    pub counted : IsCounted last
