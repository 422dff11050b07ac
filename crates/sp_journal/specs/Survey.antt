-- What is found in a journal's bytes.
use Rattle.std.specs.Prelude.{◌≡◌, ◌≢◌, ℕ, ◌≤◌, ◌+◌, List, [], ◌∷◌, ◌++◌, length, take, Option, Some, None}
use Rattle.sp_unit.specs.UnitBytes.{IsUnit, UnitView}
use Rattle.sp_journal.specs.Body.{IsBody}
use Rattle.sp_journal.specs.Format.{framed, IsUnborn, ComesTo, EndsAt}
use Rattle.sp_journal.specs.Damage.{IsDamaged, IsOtherVersion, BeginsWithUnit}
use Rattle.sp_journal.specs.declared.survey.Survey.{Survey}
use Rattle.sp_journal.specs.declared.survey.Survey.TheVariants.{Unborn, Ends, Damaged, OtherVersion}
use Rattle.sp_journal.specs.declared.survey.Gate.{Gate}
use Rattle.sp_journal.specs.declared.survey.Gate.TheVariants.{Closed, Whole, Broken}

-- what was found of a file is so
abbrev pub IsSo : Survey → List ℕ → Type 0
IsSo Unborn file = IsUnborn file
IsSo (Ends place) file = (units : List UnitView) × EndsAt units place file
IsSo (Damaged at) file = IsDamaged at file
IsSo (OtherVersion found) file = IsOtherVersion found file

-- what a file of 14 bytes or more is by its first 13: so much was found, or it is a journal of this version
abbrev pub HeadIs : Option Survey → List ℕ → Type 0
HeadIs (Some found) file = IsSo found file
HeadIs None file = ComesTo [] 13 file

-- an open gate behind which no unit follows
abbrev pub HasNoUnit : List ℕ → Type 0
HasNoUnit bytes = (gate : ℕ) × (behind : List ℕ) × (gate ≢ 0) × (bytes ≡ gate ∷ behind) × (¬ BeginsWithUnit behind)

-- what bytes that begin with a gate are by the length behind it: whole where as many bytes and a gate follow
abbrev pub FrameIs : Gate → List ℕ → Type 0
FrameIs Closed bytes = take 1 bytes ≡ 0 ∷ []
FrameIs (Whole n) bytes =
    (gate : ℕ) × (inside : List ℕ) × (next : ℕ) × (behind : List ℕ) × (gate ≢ 0) × (length inside ≡ n) × (n ≤ 16777216)
    × (bytes ≡ gate ∷ (framed inside ++ next ∷ behind))
FrameIs Broken bytes = HasNoUnit bytes

-- what bytes that begin with a gate are: whole where a unit follows, whose body was read
abbrev pub GateIs : Gate → List ℕ → List ℕ → Type 0
GateIs Closed body bytes = take 1 bytes ≡ 0 ∷ []
GateIs (Whole n) body bytes =
    (gate : ℕ) × (next : ℕ) × (behind : List ℕ) × (gate ≢ 0) × IsBody body × (length body ≡ n)
    × (bytes ≡ gate ∷ (framed body ++ next ∷ behind))
GateIs Broken body bytes = HasNoUnit bytes

-- what reading the unit at a place gives: at the end nothing, else the bytes of that unit and the next gate's place
abbrev pub GivesUnit : List UnitView → ℕ → List ℕ → List ℕ → Option ℕ → Type 0
GivesUnit units at body file None = EndsAt units at file
GivesUnit units at body file (Some next) =
    (unit : UnitView) × IsUnit body unit × (next ≡ at + (length body + 5)) × ComesTo (units ++ unit ∷ []) next file
