-- The first line of an entry, read by its separators.
use Rattle.std.specs.Prelude.{◌==◌, ◌&&◌, ℕ, List, [], ◌∷◌, Option, Some, None, option_and_then, option_map, if◌then◌else◌, nat_le, nat_lt, bytes_eq, codes}
use Rattle.sp_base.specs.Name.{is_name, is_caller}
use Rattle.sp_tape.specs.declared.entry.Kind.{Kind}
use Rattle.sp_tape.specs.declared.entry.Kind.TheVariants.{Flow, Http, Rdp, Restart}
use Rattle.sp_tape.specs.declared.head.Head.{Head}
use Rattle.sp_tape.specs.Cut.{cut}
use Rattle.sp_tape.specs.Numeral.{number_from}

-- the kind of a word
abbrev pub kind_named : List ℕ → Option Kind
kind_named word =
    if bytes_eq word (codes "flow") then Some Flow
    else (if bytes_eq word (codes "http") then Some Http
    else (if bytes_eq word (codes "rdp") then Some Rdp
    else (if bytes_eq word (codes "restart") then Some Restart else None)))

abbrev pub caller_from : List ℕ → Option (List ℕ)
caller_from text = if is_name text && is_caller text then Some text else None

abbrev pub moment_in : ℕ → Option ℕ
moment_in n = if nat_le n 9007199254740991 then Some n else None

abbrev pub moment_from : List ℕ → Option ℕ
moment_from text = option_and_then moment_in (number_from text)

-- the most bytes behind the first line: 8,388,608, and none for a restart
abbrev pub longest_body : Kind → ℕ
longest_body Flow = 8388608
longest_body Http = 8388608
longest_body Rdp = 8388608
longest_body Restart = 0

abbrev pub length_in : Kind → ℕ → Option ℕ
length_in kind n = if nat_lt (longest_body kind) n then None else Some n

abbrev pub length_from : Kind → List ℕ → Option ℕ
length_from kind text = option_and_then (length_in kind) (number_from text)

-- what the texts of the fields say, where each is one
abbrev pub head_from : List ℕ → List ℕ → List ℕ → List ℕ → Option Head
head_from caller kind moment len =
    option_and_then (λ c. option_and_then (λ k. option_and_then (λ m. option_map (λ n. record { caller = c; kind = k; moment = m; len = n }) (length_from k len)) (moment_from moment)) (kind_named kind)) (caller_from caller)

-- what follows the sign that begins an entry
abbrev pub after_at : List ℕ → Option (List ℕ)
after_at [] = None
after_at (x ∷ rest) = if x == 64 then Some rest else None

-- what a line says, where it is the first of an entry
abbrev pub head_of : List ℕ → Option Head
head_of line =
    option_and_then (λ rest. option_and_then (λ p. option_and_then (λ q. option_and_then (λ r. head_from p.0 q.0 r.0 r.1) (cut 32 q.1)) (cut 32 p.1)) (cut 32 rest)) (after_at line)
