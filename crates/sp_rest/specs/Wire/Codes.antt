-- The status codes of responses.
use Rattle.std.specs.Prelude.{ℕ, Bool, [], ◌∷◌, ◌==◌}
use Rattle.std.specs.List.{list_any}

-- the codes that responses have
abbrev pub is_response_code : ℕ → Bool
is_response_code n =
    list_any (λ code. code == n) (200 ∷ 400 ∷ 403 ∷ 404 ∷ 409 ∷ 500 ∷ 503 ∷ 507 ∷ [])
