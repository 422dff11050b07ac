-- The refusal of least number is the one that is told.
use Rattle.sp_base.specs.Refusal.{number_of}
use Rattle.sp_ledger.specs.Ledger.{Ledger}
use Rattle.sp_ledger.specs.Step.{Check, Step, always, does, lacks, rule, unit_check}
use Rattle.std.specs.Prelude.{List, [], true, ℕ, ⊤, ◌++◌, ◌∷◌, ◌≤◌}

-- along checks the rules' numbers never fall, and none is below this one
abbrev pub NeverFall : ℕ → List Check → Type 0
NeverFall least [] = ⊤
NeverFall least (check ∷ rest) = (least ≤ number_of check.refusal) × NeverFall (number_of check.refusal) rest

-- the checks of a step, with that of the unit's number last; none where nothing refuses it
abbrev pub checks_of : Ledger → Step → List Check
checks_of L (lacks refusal) = rule true refusal ∷ []
checks_of L (does checks changes reply) = checks ++ unit_check L changes ∷ []
checks_of L (always changes reply) = []
