-- What an object shows of itself, from one state to a later one.
use Rattle.std.specs.Prelude.{◌≡◌, ◌+◌, ◌≤◌, List, ◌++◌, length, Option, Some, None, IfSome, if◌then◌else◌, nat_le, max}
use Rattle.sp_hall.specs.declared.object.Shown.{Shown}

-- the longer list begins with the shorter, or neither is told
abbrev pub Begins : {E : Type 0} → Option (List E) → Option (List E) → Type 0
Begins {E} (Some longer) (Some shorter) = (more : List E) × (longer ≡ shorter ++ more)
Begins None None = Unit {0}
Begins (Some longer) None = ⊥
Begins None (Some shorter) = ⊥

module _ {E : Type 0} where
  -- of two beginnings of one list the longer
  abbrev pub longer_of : Option (List E) → Option (List E) → Option (List E)
  longer_of None b = b
  longer_of (Some a) None = Some a
  longer_of (Some a) (Some b) = if nat_le (length a) (length b) then Some b else Some a

  -- of two beginnings of one list the shorter
  abbrev pub shorter_of : Option (List E) → Option (List E) → Option (List E)
  shorter_of None b = None
  shorter_of (Some a) None = None
  shorter_of (Some a) (Some b) = if nat_le (length a) (length b) then Some a else Some b

module _ {E S : Type 0} where
  -- where the list is told, the count is the number of its entries and of those that stood before it
  abbrev pub IsCounted : Shown E S → Type 0
  IsCounted shown = IfSome shown.list (λ entries. shown.count ≡ shown.first + length entries)

  -- of two states of one object the second is the later one, or the same
  pub record Leads (before after : Shown E S) : Type 0 where
    pub count : before.count ≤ after.count
    pub faults : before.faults ≤ after.faults
    pub list : Begins after.list before.list
    pub first : after.first ≡ before.first
    pub start : after.start ≡ before.start

  -- all that was seen in two states of one object: the greater numbers and the longer list
  abbrev pub both_of : Shown E S → Shown E S → Shown E S
  both_of a b =
      record {
        count = max a.count b.count;
        faults = max a.faults b.faults;
        list = longer_of a.list b.list;
        first = a.first;
        start = a.start;
      }
