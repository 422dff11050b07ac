-- The limit on counted tokens.
use Rattle.std.specs.Prelude.{◌+◌, ℕ, zero, suc, Bool, List, [], ◌∷◌, if◌then◌else◌}
use Rattle.sp_selector.specs.declared.token.Token.{Token}
use Rattle.sp_selector.specs.Scan.{is_counted, is_in}

-- how many tokens stand before the one that would be counted beyond so many
abbrev pub allowed : ℕ → Bool → List Token → ℕ
allowed most after_in [] = 0
allowed zero after_in (t ∷ ts) = if is_counted after_in t then 0 else 1 + allowed 0 (is_in t) ts
allowed (suc most) after_in (t ∷ ts) = 1 + allowed (if is_counted after_in t then most else suc most) (is_in t) ts
