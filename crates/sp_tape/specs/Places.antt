-- Where a journal's units end.
use Rattle.std.specs.Prelude.{ℕ, ◌+◌, List, length, sum_by}
use Rattle.sp_unit.specs.UnitBytes.{UnitView, unit_bytes}

-- the place of the gate behind units: 13 bytes stand before the first gate, and each unit takes its own bytes, their
-- length and a gate
abbrev pub place_after : List UnitView → ℕ
place_after units = 13 + sum_by (λ u. length (unit_bytes u) + 5) units
