-- Members that show numbers.
use Rattle.std.specs.Prelude.{ℕ}
use Rattle.serde_json.specs.Data.{Data, number, unsigned}

abbrev pub whole : ℕ → Data
whole n = number (unsigned n)
