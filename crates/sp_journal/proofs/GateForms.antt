-- What the bytes at a gate's place are.
use Rattle.std.proofs.Common.{◌≡◌, ◌≢◌, ℕ, ◌+◌, ◌≤◌, ◌<◌, List, [], ◌∷◌, ◌++◌, length, take, drop, get_or, refl, sym, ap, ◌∙◌, subst, arith, take-append-drop, length-append, append_assoc}
use Rattle.std.proofs.lemmas.List.{take_all, take_at, drop_more, length-drop, length-take}
use Rattle.std.proofs.lemmas.Nat.{le_bytes_4, from_le_bytes-to_le_bytes_4}
use Rattle.std.specs.Int.{w32, to_le_bytes, from_le_bytes}
use Rattle.sp_unit.specs.UnitBytes.{unit_bytes}
use Rattle.sp_unit.proofs.Lengths.{unit_len}
use Rattle.sp_journal.specs.Format.{framed}
use Rattle.sp_journal.specs.Survey.{FrameIs, HasNoUnit}
use Rattle.sp_journal.specs.declared.survey.Gate.TheVariants.{Whole}

-- the first byte and those behind it, of which so many were read
first_read : (gate count : ℕ) (size bytes : List ℕ) → 1 ≤ length bytes → count ≡ length (take 5 bytes)
    → take count (gate ∷ size) ≡ take 5 bytes
    → (behind : List ℕ) × (bytes ≡ gate ∷ behind) × (take (length (take 4 behind)) size ≡ take 4 behind)
first_read gate count size [] some counts is = absurd (omega (arith, some))
first_read gate count size (b ∷ behind) some counts is =
    let both : gate ∷ take (length (take 4 behind)) size ≡ b ∷ take 4 behind =
    subst (λ (n : ℕ). take n (gate ∷ size) ≡ b ∷ take 4 behind) counts is in
    let first : gate ≡ b = cc in
    (behind, ap (λ (n : ℕ). n ∷ behind) (sym first), cc)

-- a gate, and four bytes behind it in which a length was read
module _ (gate count n : ℕ) (size bytes : List ℕ) (some : 1 ≤ length bytes) (counts : count ≡ length (take 5 bytes))
    (is : take count (gate ∷ size) ≡ take 5 bytes) (four : length size ≡ 4) (reads : n ≡ from_le_bytes w32 size) where
  abbrev found : (behind : List ℕ) × (bytes ≡ gate ∷ behind) × (take (length (take 4 behind)) size ≡ take 4 behind)
  found = first_read gate count size bytes some counts is

  -- with so many bytes behind it there is a whole unit, if they are a body
  pub whole_gate : gate ≢ 0 → ((i : ℕ) → get_or size i 0 < 256) → n ≤ 16777216 → n + 6 ≤ length bytes
      → FrameIs (Whole n) bytes
  whole_gate shown ranges high fits =
      let behind = found.0 in
      let rest = drop 4 behind in
      let more : n + 5 ≤ length behind = omega (arith, fits, ap length found.1) in
      let all : length (take 4 behind) ≡ 4 = omega (arith, more, length-take 4 behind) in
      let size_is : size ≡ take 4 behind =
      sym (take_all (length (take 4 behind)) size (omega (arith, all, four))) ∙ found.2 in
      let left : n + 1 ≤ length rest = omega (arith, more, length-drop 4 behind) in
      let body : List ℕ = take n rest in
      let after : List ℕ = get_or rest n 0 ∷ drop (n + 1) rest in
      let body_long : length body ≡ n = omega (arith, left, length-take n rest) in
      let written : to_le_bytes w32 (length body) ≡ take 4 behind =
      ap (λ (k : ℕ). to_le_bytes w32 k) body_long ∙ le_bytes_4 size n four ranges reads ∙ size_is in
      let tail : rest ≡ body ++ after =
      sym (take-append-drop n rest) ∙ ap (λ (l : List ℕ). body ++ l) (drop_more rest n 0 (omega (arith, left))) in
      let is_behind : behind ≡ framed body ++ after =
      sym (take-append-drop 4 behind)
      ∙ ap (λ (l : List ℕ). l ++ rest) (sym written)
      ∙ ap (λ (l : List ℕ). to_le_bytes w32 (length body) ++ l) tail
      ∙ sym (append_assoc (to_le_bytes w32 (length body)) body after) in (
        gate,
        body,
        get_or rest n 0,
        drop (n + 1) rest,
        shown,
        body_long,
        high,
        found.1 ∙ ap (λ (l : List ℕ). gate ∷ l) is_behind,
      )

  -- the length that was read is that of the body behind it
  read_size : (body after : List ℕ) → length body ≤ 16777216 → 1 ≤ length after → found.0 ≡ framed body ++ after
      → (n ≡ length body) × (n + 6 ≤ length bytes)
  read_size body after short more stands =
      let behind = found.0 in
      let head : take 4 behind ≡ to_le_bytes w32 (length body) =
      ap (λ (l : List ℕ). take 4 l) (stands ∙ append_assoc (to_le_bytes w32 (length body)) body after)
      ∙ take_at (to_le_bytes w32 (length body)) (body ++ after) 4 refl in
      let size_is : size ≡ take 4 behind =
      sym (take_all (length (take 4 behind)) size (omega (arith, ap length head, four))) ∙ found.2 in
      let same : n ≡ length body =
      reads ∙ ap (λ (l : List ℕ). from_le_bytes w32 l) (size_is ∙ head)
      ∙ from_le_bytes-to_le_bytes_4 (length body) (omega (arith, short)) in (
        same,
        omega (arith, same, more, ap length found.1, ap length stands, length-append (framed body) after),
      )

  -- no unit follows where the length isn't that of a body, or fewer bytes follow
  pub no_unit : gate ≢ 0 → (n ≤ 16777216 → n + 6 ≤ length bytes → ⊥) → HasNoUnit bytes
  no_unit shown none = (
    gate,
    found.0,
    shown,
    found.1,
    λ unit.
        let body : List ℕ = unit_bytes unit.0 in
        let short : length body ≤ 16777216 = unit_len body unit.0 (unit.3, refl) in
        let read = read_size body (unit.1 ∷ unit.2) short (omega arith) unit.4 in
        none (omega (arith, short, read.0)) read.1,
  )
