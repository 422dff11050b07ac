-- The numbers of the first and the last entry.
use Rattle.std.proofs.Common.{◌≡◌, ◌+◌, ◌-◌, ℕ, zero, suc, List, [], ◌∷◌, length, refl, arith}
use Rattle.std.specs.Prelude.{option_map, unwrap_or}
use Rattle.std.specs.List.{slice_get}
use Rattle.sp_replaylog.specs.Log.{last_number}
use Rattle.sp_replaylog.specs.declared.entry.Entry.{Entry}

last_at : (es : List Entry) (n : ℕ) → length es ≡ n + 1 → unwrap_or (option_map (λ e. e.number) (slice_get es n)) 0 ≡ last_number es
last_at [] n h = absurd (omega arith)
last_at (e ∷ []) zero h = refl
last_at (e ∷ []) (suc n) h = absurd (omega arith)
last_at (e ∷ f ∷ es) zero h = absurd (omega arith)
last_at (e ∷ f ∷ es) (suc n) h = last_at (f ∷ es) n (omega arith)

-- the last entry stands at the place before the end
pub last_number-at : (es : List Entry) → unwrap_or (option_map (λ e. e.number) (slice_get es (length es - 1))) 0 ≡ last_number es
last_number-at [] = refl
last_number-at (e ∷ es) = last_at (e ∷ es) (length (e ∷ es) - 1) (omega arith)
