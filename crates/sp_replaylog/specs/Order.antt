-- The order in which entries come.
use Rattle.std.specs.Prelude.{◌&&◌, Bool, true, List, Option, None, Some, nat_le}
use Rattle.std.specs.List.Sorted.{IsNonDecreasingBy}
use Rattle.sp_replaylog.specs.declared.entry.Entry.{Entry}

-- neither numbers nor moments fall
pub record IsInOrder (entries : List Entry) : Type 0 where
  pub numbers : IsNonDecreasingBy (λ e. e.number) entries
  pub moments : IsNonDecreasingBy (λ e. e.moment) entries

-- whether they don't fall from an entry, if there is one, to the next
abbrev pub may_follow : Option Entry → Entry → Bool
may_follow None new = true
may_follow (Some last) new = nat_le last.number new.number && nat_le last.moment new.moment
