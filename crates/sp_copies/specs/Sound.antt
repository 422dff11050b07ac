-- What holds of every history of copies.
use Rattle.std.specs.Prelude.{◌≡◌, ◌==◌, ◌≤◌, ◌<◌, ℕ, ◌^◌, length, map, All, AllPairs, count_by, IsTrue}
use Rattle.sp_copies.specs.History.{History, is_made, is_spooled, closings_of, used_bytes}

pub record IsSoundHistory (H : History) : Type 0 where
  -- each copy's number stands once, is above 0 and is below the next one
  pub next_above : 0 < H.next
  pub rise : AllPairs (λ c d. c.number < d.number) H.made
  pub above : All (λ c. 0 < c.number) H.made
  pub below : All (λ c. c.number < H.next) H.made
  -- each closing names a copy that was made, and no copy has two
  pub closed_made : All (λ x. IsTrue (is_made H.made x.copy)) H.closed
  pub closed_once : (copy : ℕ) → length (closings_of H.closed copy) ≤ 1
  -- each held copy is spooled, and one flow holds it
  pub held_spooled : All (λ h. IsTrue (is_spooled H h.copy)) H.held
  pub held_once : (copy : ℕ) → count_by (λ h. h.copy == copy) H.held ≤ 1
  -- it is counted of each copy how often it was handed out
  pub counted : map (λ a. a.copy) H.attempts ≡ map (λ c. c.number) H.made
  -- no endpoint's spooled copies use more than 2^40 bytes
  pub used : (endpoint : ℕ) → used_bytes H endpoint ≤ 2 ^ 40

-- a copy was made, its number stands once, and it has one fate: it is spooled, or it has its one closing
pub record HasOneFate (H : History) (copy : ℕ) : Type 0 where
  pub made_once : count_by (λ c. c.number == copy) H.made ≡ 1
  pub closed_once : length (closings_of H.closed copy) ≤ 1
