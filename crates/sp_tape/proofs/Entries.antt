-- Entries as text: the front of a tape reads in one way.
use Rattle.std.proofs.Common.{◌≡◌, ◌≢◌, ◌≤◌, ◌<◌, ◌==◌, ℕ, ◌+◌, false, List, [], ◌∷◌, ◌++◌, length, take, drop}
use Rattle.std.proofs.Common.{get_or, Some, None, refl, sym, ap, subst, ◌∙◌, arith}
use Rattle.std.proofs.lemmas.Bool.{eq-eqb}
use Rattle.std.proofs.lemmas.List.{append_assoc, length-append, length-take-le, take_at, drop_at, get_or_at}
use Rattle.std.proofs.lemmas.List.{get_or_append_left, take-append-drop, drop_more}
use Rattle.std.proofs.lemmas.List.Folds.{list_any_at}
use Rattle.std.proofs.lemmas.Option.{some_pair_parts, same_Some}
use Rattle.sp_tape.specs.declared.entry.Entry.{Entry}
use Rattle.sp_tape.specs.declared.entry.Kind.{Kind}
use Rattle.sp_tape.specs.declared.head.Head.{Head}
use Rattle.sp_tape.specs.Cut.{cut}
use Rattle.sp_tape.specs.Entry.{entry_text, IsEntry, HasNoEntry}
use Rattle.sp_tape.specs.Head.{head_of, longest_body}
use Rattle.sp_tape.specs.Parse.{IsFound, line_of}
use Rattle.sp_tape.proofs.Cuts.{has_byte, is_cut, cut-found, cut-more}
use Rattle.sp_tape.proofs.Heads.{InRange, head_is, head_of-text, text-clear, text-short, body-bound}

abbrev made_head : Head → ℕ → Head
made_head h n = record { caller = h.caller; kind = h.kind; moment = h.moment; len = n }

-- what the first line of an entry says
abbrev head_for : Entry → Head
head_for e = record { caller = e.caller; kind = e.kind; moment = e.moment; len = length e.body }

in_range : (e : Entry) → IsEntry e → InRange (head_for e)
in_range e is = record { name = is.caller; short = is.short; moment = is.moment; body = is.body }

-- an entry and what follows it, by its first line
entry_split : (e : Entry) (tail : List ℕ) → entry_text e ++ tail ≡ line_of (head_for e) ++ 10 ∷ (e.body ++ 10 ∷ tail)
entry_split e tail = append_assoc (line_of (head_for e)) (10 ∷ (e.body ++ 10 ∷ [])) tail ∙
    ap (λ (l : List ℕ). line_of (head_for e) ++ 10 ∷ l) (append_assoc e.body (10 ∷ []) tail)

entry-cut : (e : Entry) (tail : List ℕ) → IsEntry e → cut 10 (entry_text e ++ tail) ≡ Some (
  line_of (head_for e),
  e.body ++ 10 ∷ tail,
)
entry-cut e tail is = ap (cut 10) (entry_split e tail) ∙ cut-found 10 (line_of (head_for e)) (e.body ++ 10 ∷ tail)
    (text-clear (head_for e) (in_range e is))

entry-length : (e : Entry) → length (entry_text e) ≡ length (line_of (head_for e)) + 1 + length e.body + 1
entry-length e = length-append (line_of (head_for e)) (10 ∷ (e.body ++ 10 ∷ [])) ∙
    (let body = length-append e.body (10 ∷ []) in omega arith)

-- of an entry at the front of bytes that are cut at their first line feed
record IsFront (line rest : List ℕ) (e : Entry) (tail : List ℕ) : Type 0 where
  line_is : line ≡ line_of (head_for e)
  rest_is : rest ≡ e.body ++ 10 ∷ tail
  head : head_of line ≡ Some (head_for e)

front : (bytes line rest : List ℕ) (e : Entry) (tail : List ℕ) → cut 10 bytes ≡ Some (line, rest) → IsEntry e →
    bytes ≡ entry_text e ++ tail → IsFront line rest e tail
front bytes line rest e tail at is begins =
    let parts = some_pair_parts line (line_of (head_for e)) rest (e.body ++ 10 ∷ tail) (sym at ∙
    (ap (cut 10) begins ∙ entry-cut e tail is)) in
    record {
      line_is = parts.0;
      rest_is = parts.1;
      head = ap head_of parts.0 ∙ head_of-text (head_for e) (in_range e is);
    }

abbrev pub entry_made : List ℕ → Kind → ℕ → List ℕ → Entry
entry_made caller kind moment body = record { caller = caller; kind = kind; moment = moment; body = body }

-- bytes of one length before a byte are the same where the whole is
same_front : (a b xs ys : List ℕ) → length a ≡ length b → a ++ 10 ∷ xs ≡ b ++ 10 ∷ ys → (a ≡ b) × (xs ≡ ys)
same_front a b xs ys same e =
    let front_same : a ≡ b = sym (take_at a (10 ∷ xs) (length a) refl) ∙
    (ap (take (length a)) e ∙ take_at b (10 ∷ ys) (length a) (sym same)) in
    let behind : 10 ∷ xs ≡ 10 ∷ ys = sym (drop_at a (10 ∷ xs) (length a) refl) ∙
    (ap (drop (length a)) e ∙ drop_at b (10 ∷ ys) (length a) (sym same)) in
    (front_same, cc (behind))

-- the grammar reads in one way
pub same_entry : (e f : Entry) (xs ys : List ℕ) → IsEntry e → IsEntry f → entry_text e ++ xs ≡ entry_text f ++ ys →
    (e ≡ f) × (xs ≡ ys)
same_entry e f xs ys is_e is_f both =
    let at = front (entry_text e ++ xs) (line_of (head_for e)) (e.body ++ 10 ∷ xs) f ys
    (entry-cut e xs is_e) is_f both in
    let heads : head_for e ≡ head_for f =
    same_Some (head_for e) (head_for f) (sym (head_of-text (head_for e) (in_range e is_e)) ∙ at.head) in
    let caller : e.caller ≡ f.caller = ap (λ (h : Head). h.caller) heads in
    let kind : e.kind ≡ f.kind = ap (λ (h : Head). h.kind) heads in
    let moment : e.moment ≡ f.moment = ap (λ (h : Head). h.moment) heads in
    let len : length e.body ≡ length f.body = ap (λ (h : Head). h.len) heads in
    let rest = same_front e.body f.body xs ys len at.rest_is in (
      ap (λ (c : List ℕ). entry_made c e.kind e.moment e.body) caller
          ∙ (ap (λ (k : Kind). entry_made f.caller k e.moment e.body) kind
          ∙ (ap (λ (m : ℕ). entry_made f.caller f.kind m e.body) moment
          ∙ ap (λ (b : List ℕ). entry_made f.caller f.kind f.moment b) rest.0)),
      rest.1,
    )

-- what is known of an entry where the line says a head
record IsBy (line rest : List ℕ) (h : Head) (e : Entry) (tail : List ℕ) : Type 0 where
  len : length e.body ≡ h.len
  size : length (entry_text e) ≡ length line + 1 + h.len + 1
  rest_is : rest ≡ e.body ++ 10 ∷ tail

by_head : (bytes line rest : List ℕ) (h : Head) (e : Entry) (tail : List ℕ) → cut 10 bytes ≡ Some (line, rest) →
    head_of line ≡ Some h → IsEntry e → bytes ≡ entry_text e ++ tail → IsBy line rest h e tail
by_head bytes line rest h e tail at says is begins =
    let f = front bytes line rest e tail at is begins in
    let same : head_for e ≡ h = same_Some (head_for e) h (sym f.head ∙ says) in
    let len : length e.body ≡ h.len = ap (λ (x : Head). x.len) same in
    let size = entry-length e in
    let line_len : length line ≡ length (line_of (head_for e)) = ap (λ (l : List ℕ). length l) f.line_is in
    record { len = len; size = omega arith; rest_is = f.rest_is }

-- the exits of the parser

pub line_bound : (line : List ℕ) (h : Head) → head_of line ≡ Some h → (length line ≤ 98) × (h.len ≤ 8388608)
line_bound line h says =
    let is = head_is line h says in
    let short = text-short h is.1 in
    let most = body-bound h.kind in
    let low : h.len ≤ longest_body h.kind = is.1.body in
    let same : length line ≡ length (line_of h) = ap (λ (l : List ℕ). length l) is.0 in
    (omega arith, omega arith)

pub not_empty : (bytes : List ℕ) (p : List ℕ × List ℕ) → cut 10 bytes ≡ Some p → bytes ≢ []
not_empty bytes p at none = cc (ap (cut 10) none, at)

pub long_not_empty : (bytes : List ℕ) → 98 < length bytes → bytes ≢ []
long_not_empty bytes long none = let no_length : length bytes ≡ 0 = ap (λ (l : List ℕ). length l) none in omega arith

pub short_without_line : (room : ℕ) (bytes : List ℕ) → cut 10 bytes ≡ None → HasNoEntry room bytes
short_without_line room bytes at e is fits (tail, begins) =
    let found = ap (cut 10) begins ∙ entry-cut e tail is in
    cc (found, at)

pub bad_without_line : (room : ℕ) (bytes more : List ℕ) → has_byte 10 bytes ≡ false → 98 < length bytes →
    HasNoEntry room (bytes ++ more)
bad_without_line room bytes more clear long e is fits (tail, begins) =
    let line = line_of (head_for e) in
    let short : length line ≤ 98 = text-short (head_for e) (in_range e is) in
    let there : get_or (bytes ++ more) (length line) 0 ≡ 10 = ap (λ (l : List ℕ). get_or l (length line) 0) (begins ∙
    entry_split e tail) ∙ get_or_at line 10 (e.body ++ 10 ∷ tail) 0 (length line) refl in
    let here : get_or bytes (length line) 0 ≡ 10 = sym (get_or_append_left bytes more 0 (length line) (omega arith)) ∙
    there in
    let stands = list_any_at (λ x. x == 10) bytes (length line) 0 (omega arith)
    (eq-eqb (get_or bytes (length line) 0) 10 here) in
    cc (stands, clear)

pub bad_line : (room : ℕ) (bytes line rest more : List ℕ) → cut 10 bytes ≡ Some (line, rest) → head_of line ≡ None →
    HasNoEntry room (bytes ++ more)
bad_line room bytes line rest more at says e is fits (tail, begins) =
    let f = front (bytes ++ more) line (rest ++ more) e tail (cut-more 10 bytes line rest more at) is begins in
    cc (f.head, says)

pub bad_length : (room : ℕ) (bytes line rest more : List ℕ) (h : Head) → cut 10 bytes ≡ Some (line, rest) →
    head_of line ≡ Some h → room < length line + 1 + h.len + 1 → HasNoEntry room (bytes ++ more)
bad_length room bytes line rest more h at says long e is fits (tail, begins) =
    let b = by_head (bytes ++ more) line (rest ++ more) h e tail (cut-more 10 bytes line rest more at) says is begins in
    omega (arith, b.size)

pub short_body : (room : ℕ) (bytes line rest : List ℕ) (h : Head) → cut 10 bytes ≡ Some (line, rest) →
    head_of line ≡ Some h → length rest ≤ h.len → HasNoEntry room bytes × (length bytes ≤ 8388800)
short_body room bytes line rest h at says short =
    let bound = line_bound line h says in
    let whole = ap (λ (l : List ℕ). length l) (is_cut 10 bytes line rest at).joined ∙ length-append line (10 ∷ rest) in
    (none, omega (arith, whole))
  where
    none : HasNoEntry room bytes
    none e is fits (tail, begins) =
        let b = by_head bytes line rest h e tail at says is begins in
        let size = ap (λ (l : List ℕ). length l) b.rest_is ∙ length-append e.body (10 ∷ tail) in
        omega (arith, size, b.len)

pub bad_end : (room : ℕ) (bytes line rest more : List ℕ) (h : Head) → cut 10 bytes ≡ Some (line, rest) →
    head_of line ≡ Some h → h.len < length rest → (get_or rest h.len 0 ≡ 10 → ⊥) → HasNoEntry room (bytes ++ more)
bad_end room bytes line rest more h at says long other e is fits (tail, begins) =
    let b = by_head (bytes ++ more) line (rest ++ more) h e tail (cut-more 10 bytes line rest more at) says is begins in
    let there : get_or (rest ++ more) h.len 0 ≡ 10 = ap (λ (l : List ℕ). get_or l h.len 0) b.rest_is ∙
    get_or_at e.body 10 tail 0 h.len b.len in
    other (sym (get_or_append_left rest more 0 h.len long) ∙ there)

pub found : (room : ℕ) (bytes line rest : List ℕ) (h : Head) → cut 10 bytes ≡ Some (line, rest) →
    head_of line ≡ Some h → length line + 1 + h.len + 1 ≤ room → h.len < length rest → get_or rest h.len 0 ≡ 10 →
    IsFound room bytes (record {
      entry = entry_made h.caller h.kind h.moment (take h.len rest);
      used =
          length line + 1 + h.len + 1;
    })
found room bytes line rest h at says fits long ends =
    let is = head_is line h says in
    let low : h.len ≤ longest_body h.kind = is.1.body in
    let body = take h.len rest in
    let e = entry_made h.caller h.kind h.moment body in
    let behind = drop (h.len + 1) rest in
    let used = length line + 1 + h.len + 1 in
    let body_len : length body ≡ h.len = length-take-le h.len rest (omega arith) in
    let head_same : head_for e ≡ h = ap (λ (n : ℕ). made_head h n) body_len in
    let line_is : line ≡ line_of (head_for e) = is.0 ∙ ap line_of (sym head_same) in
    let rest_is : rest ≡ body ++ 10 ∷ behind = sym (take-append-drop h.len rest) ∙
    ap (λ (l : List ℕ). body ++ l) (drop_more rest h.len 0 long ∙ ap (λ (x : ℕ). x ∷ behind) ends) in
    let joined = (is_cut 10 bytes line rest at).joined in
    let whole : bytes ≡ entry_text e ++ behind = joined ∙ (ap (λ (l : List ℕ). l ++ 10 ∷ rest) line_is ∙
    (ap (λ (l : List ℕ). line_of (head_for e) ++ 10 ∷ l) rest_is ∙ sym (entry_split e behind))) in
    let line_len : length line ≡ length (line_of (head_for e)) = ap (λ (l : List ℕ). length l) line_is in
    let size : length (entry_text e) ≡ used = let n = entry-length e in omega (arith, n, line_len, body_len) in
    let bytes_len = ap (λ (l : List ℕ). length l) joined ∙ length-append line (10 ∷ rest) in
    record {
      entry = record {
        caller = is.1.name;
        short = is.1.short;
        moment = is.1.moment;
        body =
            subst (λ (n : ℕ). n ≤ longest_body h.kind) (sym body_len) low;
      };
      front = whole ∙ ap (λ (l : List ℕ). entry_text e ++ l) (sym (ap (drop used) whole ∙
          drop_at (entry_text e) behind used size));
      used = size;
      within = omega (arith, bytes_len);
      fits = fits;
    }
