-- When the front of a tape may still become an entry.
use Rattle.std.specs.Prelude.{ℕ, ◌+◌, ◌&&◌, List, length, Bool, false, Option, option_map, nat_le, nat_lt}
use Rattle.std.specs.Option.{option_map_or}
use Rattle.sp_tape.specs.Cut.{cut}
use Rattle.sp_tape.specs.Head.{head_of}

-- the most bytes of an entry's first line: @, a caller of 64, a kind of 7, a moment of 16, a length of 7, and 3 blanks
abbrev pub longest_head : ℕ
longest_head = 98

-- how many bytes the entry takes that a line announces, where the line is an entry's first
abbrev pub size_announced : List ℕ → Option ℕ
size_announced line = option_map (λ h. length line + 1 + h.len + 1) (head_of line)

-- a line announces an entry that fits the room, and so many bytes end before it does
abbrev pub announces_more : ℕ → ℕ → List ℕ → Bool
announces_more room count line = option_map_or (λ size. nat_le size room && nat_lt count size) (size_announced line) false

-- bytes are unfinished where they hold no line feed and are no more than a first line may have, or
-- where their first line announces an entry that fits the room, and they end before it does
abbrev pub is_unfinished : ℕ → List ℕ → Bool
is_unfinished room bytes = option_map_or (λ p. announces_more room (length bytes) p.0) (cut 10 bytes) (nat_le (length bytes) longest_head)
