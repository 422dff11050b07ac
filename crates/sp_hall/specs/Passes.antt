-- What a pass knows, and how the hall's calls change it.
use Rattle.std.specs.Prelude.{◌≡◌, ℕ, ◌+◌, ◌-◌, ◌^◌}
use Rattle.sp_hall.specs.Halls.{HallId}
use Rattle.sp_hall.specs.States.{IsCounted, Leads, both_of}
use Rattle.sp_hall.specs.declared.object.Shown.{Shown}

-- the hall that it is a pass of, its parts of all passes, what it has seen of the object, and by how much its own calls raised the count
pub record Known (E S : Type 0) : Type 0 where
  pub hall : HallId E S
  pub parts : ℕ
  pub seen : Shown E S
  pub made : ℕ

-- the parts of all passes of a hall
abbrev pub all_parts : ℕ
all_parts = 2 ^ 62

module _ {E S : Type 0} where
  -- the first pass has all parts, has seen the object as it was, and has made nothing
  abbrev pub first_pass : HallId E S → Known E S
  first_pass hall = record { hall = hall; parts = all_parts; seen = hall.opened; made = 0 }

  -- a pass with one part that has seen as much and has made nothing
  abbrev pub new_pass : Known E S → Known E S
  new_pass pass = record { hall = pass.hall; parts = 1; seen = pass.seen; made = 0 }

  -- the pass with a part less
  abbrev pub left_pass : Known E S → Known E S
  left_pass pass = record { hall = pass.hall; parts = pass.parts - 1; seen = pass.seen; made = pass.made }

  -- two passes as one
  abbrev pub met_pass : Known E S → Known E S → Known E S
  met_pass pass other =
      record {
        hall = pass.hall;
        parts = pass.parts + other.parts;
        seen = both_of pass.seen other.seen;
        made = pass.made + other.made;
      }

  -- a call came upon the object in a state, and left it in another, which the pass has seen since
  pub record HasTurn (before after : Shown E S) (pass later : Known E S) : Type 0 where
    pub begins : Leads pass.seen before
    pub counted : IsCounted before
    pub acts : Leads before after
    pub seen : later.seen ≡ after
    pub made : later.made ≡ pass.made + (after.count - before.count)
