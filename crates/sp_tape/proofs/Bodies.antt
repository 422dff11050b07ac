-- An entry behind its first line: what was read of it, and what comes.
use Rattle.std.proofs.Common.{◌≡◌, ◌≢◌, ◌≤◌, ◌<◌, ◌==◌, ℕ, ◌+◌, Bool, true, false, cond, Option, Some, refl, sym, ap}
use Rattle.std.proofs.Common.{List, [], ◌∷◌, ◌++◌, length, take, drop, get_or, append_assoc, append-nil, length-append}
use Rattle.std.proofs.Common.{◌∙◌, subst, arith}
use Rattle.std.proofs.lemmas.Bool.{eqb-true, eqb-false}
use Rattle.std.proofs.lemmas.List.{drop_at, get_or_append_left, take-append-le}
use Rattle.std.specs.Io.KnownBytes.{Consumes, IsAtEnd}
use Rattle.sp_tape.specs.declared.head.Head.{Head}
use Rattle.sp_tape.specs.declared.parse.FirstLine.{FirstLine}
use Rattle.sp_tape.specs.declared.parse.Found.{Found}
use Rattle.sp_tape.specs.declared.reader.Next.TheVariants as next
use Rattle.sp_tape.specs.Cut.{cut}
use Rattle.sp_tape.specs.Gathering.{ComesBehind, IsBegun, closed, read_so_far}
use Rattle.sp_tape.specs.Head.{head_of}
use Rattle.sp_tape.specs.Parse.{IsFound, IsLine, line_of}
use Rattle.sp_tape.specs.Reading.{IsReadWhileUnfinished, Reads}
use Rattle.sp_tape.specs.Unfinished.{is_unfinished}
use Rattle.sp_tape.proofs.Cuts.{cut-found, is_cut}
use Rattle.sp_tape.proofs.Entries.{bad_end, bad_length, entry_made, found, line_bound, not_empty}
use Rattle.sp_tape.proofs.Fronts.{finished_beyond_room, finished_with_body, found_comes, one_read_behind}
use Rattle.sp_tape.proofs.Fronts.{refused_at_end, refused_for_good, unfinished_in_body}
use Rattle.sp_tape.proofs.Heads.{head_is, text-clear}
use Rattle.sp_tape.proofs.Known.{reads_on, reads_then, reads_to_end}

-- the first line that says a head, and what follows it
cut_line : (h : Head) (rest : List ℕ) → head_of (line_of h) ≡ Some h →
    cut 10 (line_of h ++ 10 ∷ rest) ≡ Some (line_of h, rest)
cut_line h rest says = cut-found 10 (line_of h) rest (text-clear h (head_is (line_of h) h says).1)

-- bytes begin with the first line of an entry where the line before their first line feed says a head
pub line_at : (bytes line rest : List ℕ) (h : Head) → cut 10 bytes ≡ Some (line, rest) → head_of line ≡ Some h →
    IsLine bytes (record { head = h; len = length line + 1 })
line_at bytes line rest h at says =
    let is : line ≡ line_of h = (head_is line h says).0 in
    let joined : bytes ≡ line ++ 10 ∷ rest = (is_cut 10 bytes line rest at).joined in
    let one : length (line ++ 10 ∷ []) ≡ length line + 1 = length-append line (10 ∷ []) in
    let apart : bytes ≡ (line ++ 10 ∷ []) ++ rest = joined ∙ sym (append_assoc line (10 ∷ []) rest) in
    let behind : drop (length line + 1) bytes ≡ rest =
    ap (drop (length line + 1)) apart ∙ drop_at (line ++ 10 ∷ []) rest (length line + 1) one in
    record {
      says = subst (λ (l : List ℕ). head_of l ≡ Some h) is says;
      front = joined ∙ (ap (λ (l : List ℕ). l ++ 10 ∷ rest) is ∙ ap (λ (l : List ℕ). line_of h ++ 10 ∷ l) (sym behind));
      len = ap (λ (l : List ℕ). length l + 1) (sym is);
    }

abbrev made : Head → ℕ → List ℕ → Found
made h used body = record { entry = entry_made h.caller h.kind h.moment body; used = used }

-- neither the line nor the body is so long that its length wraps
pub line_short : (h : Head) → head_of (line_of h) ≡ Some h → (length (line_of h) ≤ 98) × (h.len ≤ 8388608)
line_short h says = line_bound (line_of h) h says

-- an entry that takes more bytes than there is room for
pub beyond_room : (room : ℕ) (left : Option (List ℕ)) (bytes waits : List ℕ) (line : FirstLine) → IsLine bytes line →
    room < line.len + (line.head.len + 1) → ComesBehind room left left bytes waits next.Bad
beyond_room room left bytes waits line is long old waiting reads no_further =
    let h = line.head in
    let rest = drop line.len bytes in
    let at : cut 10 bytes ≡ Some (line_of h, rest) = ap (cut 10) is.front ∙ cut_line h rest is.says in
    let len = is.len in
    let over : room < length (line_of h) + 1 + h.len + 1 = omega arith in (
      bytes,
      reads,
      refused_for_good room left bytes (not_empty bytes (line_of h, rest) at)
          (finished_beyond_room room bytes (line_of h) rest h at is.says over)
          (λ more. bad_length room bytes (line_of h) rest more h at is.says over),
      no_further,
    )

-- what waits behind the line is shared out
pub same_bytes : (bytes : List ℕ) (line : FirstLine) (body waiting : List ℕ) → IsLine bytes line →
    body ++ waiting ≡ drop line.len bytes → read_so_far line.head body waiting ≡ bytes
same_bytes bytes line body waiting is joined =
    ap (λ (l : List ℕ). line_of line.head ++ 10 ∷ l) joined ∙ sym is.front

module _ (h : Head) (used : ℕ) (body waiting : List ℕ) (b : IsBegun h used body waiting) where
  abbrev bytes : List ℕ
  bytes = read_so_far h body waiting

  at : cut 10 bytes ≡ Some (line_of h, body ++ waiting)
  at = cut_line h (body ++ waiting) b.says

  some : bytes ≢ []
  some = not_empty bytes (line_of h, body ++ waiting) at

  unfinished : (room : ℕ) → used ≤ room → length body < h.len + 1 → is_unfinished room bytes ≡ true
  unfinished room fits lacks =
      let none = ap (λ (l : List ℕ). length (body ++ l)) (b.shared.behind lacks) ∙
      ap (λ (l : List ℕ). length l) (append-nil body) in
      let is = b.used_is in
      unfinished_in_body room bytes (line_of h) (body ++ waiting) h at b.says (omega arith) (omega arith)

  -- one read more, while the body lacks some
  read_more_is : (more all_body all_waiting : List ℕ) → length body < h.len + 1 →
      all_body ++ all_waiting ≡ body ++ more → read_so_far h all_body all_waiting ≡ bytes ++ more
  read_more_is more all_body all_waiting lacks joined =
      let whole : body ++ more ≡ (body ++ waiting) ++ more =
      ap (λ (l : List ℕ). l ++ more) (sym (append-nil body) ∙
      ap (λ (l : List ℕ). body ++ l) (sym (b.shared.behind lacks))) in
      ap (λ (l : List ℕ). line_of h ++ 10 ∷ l) (joined ∙ whole) ∙
      sym (append_assoc (line_of h) (10 ∷ (body ++ waiting)) more)

  pub reads_more : (a m c : Option (List ℕ)) (start more all_body all_waiting : List ℕ) → length body < h.len + 1 →
      all_body ++ all_waiting ≡ body ++ more → Reads a m start bytes → Consumes m c more →
      Reads a c start (read_so_far h all_body all_waiting)
  reads_more a m c start more all_body all_waiting lacks joined reads q =
      subst (Reads a c start) (sym (read_more_is more all_body all_waiting lacks joined))
      (reads_on a m c start bytes more reads q)

  pub no_further_more : (room : ℕ) (more all_body all_waiting : List ℕ) → used ≤ room → length body < h.len + 1 →
      all_body ++ all_waiting ≡ body ++ more → length more ≤ 4096 →
      IsReadWhileUnfinished room (read_so_far h all_body all_waiting)
  no_further_more room more all_body all_waiting fits lacks joined short =
      subst (IsReadWhileUnfinished room) (sym (read_more_is more all_body all_waiting lacks joined))
      (one_read_behind room bytes more (unfinished room fits lacks) short)

  -- the body and the byte behind it are there, and that is a line feed
  closed_is_found : (room : ℕ) → used ≤ room → length body ≡ h.len + 1 → get_or body h.len 0 ≡ 10 →
      IsFound room bytes (made h used (take h.len body))
  closed_is_found room fits full ends =
      let rest = body ++ waiting in
      let both = length-append body waiting in
      let is = b.used_is in
      let last : get_or rest h.len 0 ≡ 10 = get_or_append_left body waiting 0 h.len (omega arith) ∙ ends in
      let front : take h.len rest ≡ take h.len body = take-append-le h.len body waiting (omega arith) in
      let all = found room bytes (line_of h) rest h at b.says (omega arith) (omega arith) last in
      subst (λ (n : ℕ). IsFound room bytes (made h n (take h.len body))) is
      (subst (λ (l : List ℕ). IsFound room bytes (made h (length (line_of h) + 1 + h.len + 1) l)) front all)

  behind : length body ≡ h.len + 1 → waiting ≡ drop used bytes
  behind full =
      let is = b.used_is in
      let size = length-append (line_of h) (10 ∷ body) in
      let whole : bytes ≡ (line_of h ++ 10 ∷ body) ++ waiting = sym (append_assoc (line_of h) (10 ∷ body) waiting) in
      sym (ap (drop used) whole ∙ drop_at (line_of h ++ 10 ∷ body) waiting used (omega arith))

  module _ (room : ℕ) (fits : used ≤ room) (a m : Option (List ℕ)) (start : List ℕ) (read : Reads a m start bytes)
      (further : IsReadWhileUnfinished room start → IsReadWhileUnfinished room bytes) where
    -- the source ends within the body
    pub ends_within : (c : Option (List ℕ)) (waits : List ℕ) → length body < h.len + 1 → Consumes m c [] → IsAtEnd c →
        ComesBehind room a c start waits next.Bad
    ends_within c waits lacks nothing end old first reads no_further = (
      bytes,
      reads_then old a c first start bytes reads (reads_to_end a m c start bytes read nothing),
      refused_at_end room c bytes some (unfinished room fits lacks) end,
      λ short. further (no_further short),
    )

    by_test : (t : Bool) → (get_or body h.len 0 == 10) ≡ t → length body ≡ h.len + 1 →
        ComesBehind room a m start waiting (cond t (next.Found (made h used (take h.len body))) next.Bad)
    by_test false other full old first reads no_further =
        let rest = body ++ waiting in
        let both = length-append body waiting in
        let same = get_or_append_left body waiting 0 h.len (omega arith) in (
          bytes,
          reads_then old a m first start bytes reads read,
          refused_for_good room m bytes some
              (finished_with_body room bytes (line_of h) rest h at b.says (omega arith))
              (λ more. bad_end room bytes (line_of h) rest more h at b.says (omega arith)
              (λ ends. eqb-false (get_or body h.len 0) 10 other (sym same ∙ ends))),
          λ short. further (no_further short),
        )
    by_test true ends full old first reads no_further =
        let found_here = closed_is_found room fits full (eqb-true (get_or body h.len 0) 10 ends) in
        found_comes room old m first bytes waiting (made h used (take h.len body))
        (reads_then old a m first start bytes reads read)
        (λ short. further (no_further short)) found_here (behind full)

    -- the body and the byte behind it are there
    pub closes : length body ≡ h.len + 1 → ComesBehind room a m start waiting (closed h used body)
    closes full = by_test (get_or body h.len 0 == 10) refl full
