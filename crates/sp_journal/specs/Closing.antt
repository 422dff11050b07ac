-- What closing a gate does.
use Rattle.std.specs.Prelude.{◌≡◌, ◌⊎◌, ℕ, List, [], ◌∷◌, take, drop}
use Rattle.sp_disk.specs.Disk.{Torn}

-- a read gives a closed gate there
abbrev pub IsClosedAt : ℕ → List ℕ → Type 0
IsClosedAt at file = take 1 (drop at file) ≡ 0 ∷ []

-- a file stays, or it is what a read gave first, the gate there was open, and its byte may become any other
abbrev pub MayClose : ℕ → List ℕ → List ℕ → List ℕ → Type 0
MayClose at reads old new = (new ≡ old) ⊎ ((old ≡ reads) × (¬ IsClosedAt at old) × Torn at 1 old new)
