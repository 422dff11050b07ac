-- Whether bytes that may become a request end within its target.
use Rattle.std.specs.Prelude.{ℕ, Bool, false, List, [], ◌∷◌, if◌then◌else◌, ◌==◌}
use Rattle.std.specs.List.{list_all}
use Rattle.httparse.specs.Grammar.{is_uri_byte}

-- a space is there, and after the first stand bytes of a target alone
abbrev pub is_in_target : List ℕ → Bool
is_in_target [] = false
is_in_target (b ∷ bytes) = if b == 32 then list_all is_uri_byte bytes else is_in_target bytes
