use Rattle.std.proofs.Common.{◌≡◌, ◌++◌, length, false}
use denote.Text.{Utf8}
use denote.Shadow.{shadow}
use Rattle.std.specs.Str.{chars}
use Rattle.sp_pattern.specs.Pattern.{items_from}
use Rattle.sp_pattern.proofs.pattern.pattern.Given as goal

abbrev pub invariant-loop-c : goal.invariant-loop-c
invariant-loop-c l = shadow (Utf8 l.rest) × (l.items.items ++ items_from l.escape l.escaped (chars l.rest) ≡ items_from l.escape false (chars l.text))

abbrev pub decreases-loop-c : goal.decreases-loop-c
decreases-loop-c l = length l.rest
