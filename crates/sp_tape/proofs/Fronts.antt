-- Unfinished fronts of a tape, and how far a tape is read for one entry.
use Rattle.std.proofs.Common.{◌≡◌, ◌≢◌, ◌≤◌, ◌<◌, ℕ, ◌+◌, ◌&&◌, Bool, true, false, inl, inr, List, [], ◌∷◌, ◌++◌}
use Rattle.std.proofs.Common.{length, take, drop, Option, Some, None, refl, sym, ap, ◌∙◌, subst, append-nil, arith}
use Rattle.std.specs.Prelude.{nat_le, nat_lt, option_map}
use Rattle.std.specs.Bool.{MatchBool}
use Rattle.std.specs.Option.{unwrap_or, option_map_or}
use Rattle.std.specs.Io.KnownBytes.{IsAtEnd}
use Rattle.std.proofs.lemmas.Bool.{leb-true, le-leb, lt-leb, ltb-true, lt-ltb, le-ltb, and_parts, and_from, and_left}
use Rattle.std.proofs.lemmas.Bool.{and_right, cases_lt}
use Rattle.std.proofs.lemmas.List.{length-append, length-drop, take_at, take-append-le, take-append-drop}
use Rattle.sp_tape.specs.declared.head.Head.{Head}
use Rattle.sp_tape.specs.declared.parse.Found.{Found}
use Rattle.sp_tape.specs.declared.reader.Next.TheVariants as next
use Rattle.sp_tape.specs.Cut.{cut}
use Rattle.sp_tape.specs.Entry.{entry_text, HasNoEntry, IsHopeless}
use Rattle.sp_tape.specs.Head.{head_of}
use Rattle.sp_tape.specs.Parse.{IsFound}
use Rattle.sp_tape.specs.Reading.{Reads, Comes, IsReadWhileUnfinished, IsRefused}
use Rattle.sp_tape.specs.Unfinished.{announces_more, is_unfinished}
use Rattle.sp_tape.proofs.Cuts.{is_cut}
use Rattle.sp_tape.proofs.Entries.{short_without_line, short_body}
use Rattle.sp_tape.proofs.Known.{at_end}

-- whether bytes are unfinished, by their first line

abbrev by_size : ℕ → ℕ → ℕ → Bool
by_size room count size = nat_le size room && nat_lt count size

abbrev by_head : ℕ → ℕ → List ℕ → Option Head → Bool
by_head room count line o = option_map_or (by_size room count) (option_map (λ h. length line + 1 + h.len + 1) o) false

abbrev by_cut : ℕ → ℕ → Option (List ℕ × List ℕ) → Bool
by_cut room count o = option_map_or (λ p. announces_more room count p.0) o (nat_le count 98)

pub unfinished_without_line : (room : ℕ) (bytes : List ℕ) → cut 10 bytes ≡ None → length bytes ≤ 98 →
    is_unfinished room bytes ≡ true
unfinished_without_line room bytes at short = ap (by_cut room (length bytes)) at ∙ le-leb (length bytes) 98 short

pub finished_without_line : (room : ℕ) (bytes : List ℕ) → cut 10 bytes ≡ None → 98 < length bytes →
    is_unfinished room bytes ≡ false
finished_without_line room bytes at long = ap (by_cut room (length bytes)) at ∙ lt-leb (length bytes) 98 long

pub finished_by_line : (room : ℕ) (bytes line rest : List ℕ) → cut 10 bytes ≡ Some (line, rest) →
    head_of line ≡ None → is_unfinished room bytes ≡ false
finished_by_line room bytes line rest at says = ap (by_cut room (length bytes)) at ∙
    ap (by_head room (length bytes) line) says

unfinished_by_head : (room : ℕ) (bytes line rest : List ℕ) (h : Head) → cut 10 bytes ≡ Some (line, rest) →
    head_of line ≡ Some h → is_unfinished room bytes ≡ by_size room (length bytes) (length line + 1 + h.len + 1)
unfinished_by_head room bytes line rest h at says = ap (by_cut room (length bytes)) at ∙
    ap (by_head room (length bytes) line) says

whole_length : (bytes line rest : List ℕ) → cut 10 bytes ≡ Some (line, rest) →
    length bytes ≡ length line + (1 + length rest)
whole_length bytes line rest at =
    let whole = ap (λ (l : List ℕ). length l) (is_cut 10 bytes line rest at).joined ∙ length-append line (10 ∷ rest) in
    omega (arith, whole)

pub unfinished_in_body : (room : ℕ) (bytes line rest : List ℕ) (h : Head) → cut 10 bytes ≡ Some (line, rest) →
    head_of line ≡ Some h → length line + 1 + h.len + 1 ≤ room → length rest ≤ h.len → is_unfinished room bytes ≡ true
unfinished_in_body room bytes line rest h at says fits short =
    let whole = whole_length bytes line rest at in
    let size = length line + 1 + h.len + 1 in
    unfinished_by_head room bytes line rest h at says ∙ and_from (nat_le size room) (nat_lt (length bytes) size)
    (le-leb size room fits) (lt-ltb (length bytes) size (omega arith))

pub finished_beyond_room : (room : ℕ) (bytes line rest : List ℕ) (h : Head) → cut 10 bytes ≡ Some (line, rest) →
    head_of line ≡ Some h → room < length line + 1 + h.len + 1 → is_unfinished room bytes ≡ false
finished_beyond_room room bytes line rest h at says long =
    let size = length line + 1 + h.len + 1 in
    unfinished_by_head room bytes line rest h at says ∙ and_left (nat_le size room) (nat_lt (length bytes) size)
    (lt-leb size room long)

pub finished_with_body : (room : ℕ) (bytes line rest : List ℕ) (h : Head) → cut 10 bytes ≡ Some (line, rest) →
    head_of line ≡ Some h → h.len < length rest → is_unfinished room bytes ≡ false
finished_with_body room bytes line rest h at says long =
    let whole = whole_length bytes line rest at in
    let size = length line + 1 + h.len + 1 in
    unfinished_by_head room bytes line rest h at says ∙ and_right (nat_le size room) (nat_lt (length bytes) size)
    (le-ltb (length bytes) size (omega arith))

-- unfinished bytes have no entry yet, and are shorter than the longest one

none_by_head : (room : ℕ) (bytes line rest : List ℕ) (o : Option Head) → cut 10 bytes ≡ Some (line, rest) →
    head_of line ≡ o → by_head room (length bytes) line o ≡ true → HasNoEntry room bytes × (length bytes ≤ 8388800)
none_by_head room bytes line rest None at says t = absurd (cc)
none_by_head room bytes line rest (Some h) at says t =
    let whole = whole_length bytes line rest at in
    let size = length line + 1 + h.len + 1 in
    let less : length bytes < size =
    ltb-true (length bytes) size (and_parts (nat_le size room) (nat_lt (length bytes) size) t).1 in
    short_body room bytes line rest h at says (omega arith)

none_by_cut : (room : ℕ) (bytes : List ℕ) (o : Option (List ℕ × List ℕ)) → cut 10 bytes ≡ o →
    by_cut room (length bytes) o ≡ true → HasNoEntry room bytes × (length bytes ≤ 8388800)
none_by_cut room bytes None at t =
    let low : length bytes ≤ 98 = leb-true (length bytes) 98 t in
    (short_without_line room bytes at, omega arith)
none_by_cut room bytes (Some (line, rest)) at t = none_by_head room bytes line rest (head_of line) at refl t

pub unfinished_is_none : (room : ℕ) (bytes : List ℕ) → is_unfinished room bytes ≡ true →
    HasNoEntry room bytes × (length bytes ≤ 8388800)
unfinished_is_none room bytes t = none_by_cut room bytes (cut 10 bytes) refl t

-- how far was read

pub one_read_behind : (room : ℕ) (front piece : List ℕ) → is_unfinished room front ≡ true → length piece ≤ 4096 →
    IsReadWhileUnfinished room (front ++ piece)
one_read_behind room front piece t short =
    let most : length front ≤ 8388800 = (unfinished_is_none room front t).1 in
    let both = length-append front piece in
    record { front = front; piece = piece; joined = refl; unfinished = t; one_read = short; most = omega arith }

-- an entry ends behind the unfinished front, so what is left is within the last read
pub left_is_short : (room : ℕ) (bytes : List ℕ) (found : Found) → IsFound room bytes found →
    IsReadWhileUnfinished room bytes → length (drop found.used bytes) ≤ 4096
left_is_short room bytes found f r = elim (cases_lt (length r.front) found.used) [
  | inl behind ↦
      let both = ap (λ (l : List ℕ). length l) r.joined ∙ length-append r.front r.piece in
      let left = length-drop found.used bytes in
      let one = r.one_read in
      omega (arith, both, left, one)
  | inr within ↦
      let text = entry_text found.entry in
      let k = found.used in
      let same : take k r.front ≡ text = sym (take-append-le k r.front r.piece within) ∙
      (ap (take k) (sym r.joined ∙ f.front) ∙ take_at text (drop k bytes) k f.used) in
      let begins : r.front ≡ text ++ drop k r.front = sym (take-append-drop k r.front) ∙
      ap (λ (l : List ℕ). l ++ drop k r.front) same in
      absurd ((unfinished_is_none room r.front r.unfinished).0 found.entry f.entry
      (subst (λ (n : ℕ). n ≤ room) (sym f.used) f.fits) (drop k r.front, begins))
]

-- what comes where an entry was found at the front of what was read
pub found_comes : (room : ℕ) (old new : Option (List ℕ)) (waiting bytes left : List ℕ) (found : Found) →
    Reads old new waiting bytes → (length waiting ≤ 4096 → IsReadWhileUnfinished room bytes) →
    IsFound room bytes found → left ≡ drop found.used bytes → Comes room old new waiting left (next.Found found)
found_comes room old new waiting bytes left found reads no_further f is = (
  f.entry,
  f.used,
  f.fits,
  subst (Reads old new waiting) (f.front ∙ ap (λ (l : List ℕ). entry_text found.entry ++ l) (sym is)) reads,
  λ short. subst (λ (l : List ℕ). length l ≤ 4096) (sym is) (left_is_short room bytes found f (no_further short)),
)

-- the reasons to refuse bytes

pub refused_at_end : (room : ℕ) (left : Option (List ℕ)) (bytes : List ℕ) → bytes ≢ [] →
    is_unfinished room bytes ≡ true → IsAtEnd left → IsRefused room left bytes
refused_at_end room left bytes some is end =
    (some, subst (λ (t : Bool). MatchBool t (IsAtEnd left) (IsHopeless room bytes)) (sym is) end)

pub refused_for_good : (room : ℕ) (left : Option (List ℕ)) (bytes : List ℕ) → bytes ≢ [] →
    is_unfinished room bytes ≡ false → IsHopeless room bytes → IsRefused room left bytes
refused_for_good room left bytes some is hopeless =
    (some, subst (λ (t : Bool). MatchBool t (IsAtEnd left) (IsHopeless room bytes)) (sym is) hopeless)

-- what is refused has no entry, with what the source still has behind it
pub refused_is_none : (room : ℕ) (left : Option (List ℕ)) (bytes : List ℕ) → IsRefused room left bytes →
    HasNoEntry room (bytes ++ unwrap_or left [])
refused_is_none room left bytes r = by_test (is_unfinished room bytes) refl r.1
  where
    by_test : (t : Bool) → is_unfinished room bytes ≡ t → MatchBool t (IsAtEnd left) (IsHopeless room bytes) →
        HasNoEntry room (bytes ++ unwrap_or left [])
    by_test true is end = subst (HasNoEntry room) (sym (ap (λ (more : List ℕ). bytes ++ more) (at_end left end) ∙
        append-nil bytes)) (unfinished_is_none room bytes is).0
    by_test false is hopeless = hopeless (unwrap_or left [])
