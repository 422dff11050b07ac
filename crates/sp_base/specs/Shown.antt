-- A value that is shown, and its name.
use Rattle.std.specs.Prelude.{ℕ, List}
use Rattle.sp_base.specs.declared.refusal.shown.ShownValue.{ShownValue}

pub record ShownAs : Type 0 where
  pub name : List ℕ
  pub value : ShownValue

-- a value under a name
abbrev pub shown_as : List ℕ → ShownValue → ShownAs
shown_as name value = record { name = name; value = value }
