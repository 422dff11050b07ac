-- The first bytes of a journal.
use Rattle.std.proofs.Common.{◌≡◌, ◌≢◌, ℕ, ◌≤◌, ◌<◌, List, [], ◌∷◌, ◌++◌, length, take, drop, get_or, refl, sym, ap, ◌∙◌, arith, take-append-drop}
use Rattle.std.specs.Prelude.{codes}
use Rattle.std.proofs.lemmas.List.{drop_all, drop_more}
use Rattle.std.proofs.lemmas.Nat.{le_bytes_4}
use Rattle.std.specs.Int.{w32, to_le_bytes, from_le_bytes}
use Rattle.sp_journal.specs.Format.{heading, ComesTo}

last_four : (head : List ℕ) → length head ≡ 13
    → drop 9 head ≡ get_or head 9 0 ∷ get_or head 10 0 ∷ get_or head 11 0 ∷ get_or head 12 0 ∷ []
last_four head size =
    let e9 = drop_more head 9 0 (omega (arith, size)) in
    let e10 = drop_more head 10 0 (omega (arith, size)) in
    let e11 = drop_more head 11 0 (omega (arith, size)) in
    let e12 = drop_more head 12 0 (omega (arith, size)) in
    let e13 = drop_all 13 head (omega (arith, size)) in
    e9 ∙ ap (λ (l : List ℕ). get_or head 9 0 ∷ l) (e10
    ∙ ap (λ (l : List ℕ). get_or head 10 0 ∷ l) (e11
    ∙ ap (λ (l : List ℕ). get_or head 11 0 ∷ l) (e12 ∙ ap (λ (l : List ℕ). get_or head 12 0 ∷ l) e13)))

is_heading : (gate : ℕ) (rest : List ℕ) → length rest ≡ 12 → take 8 rest ≡ codes "spooljnl"
    → drop 8 rest ≡ 1 ∷ 0 ∷ 0 ∷ 0 ∷ [] → rest ≡ heading
is_heading gate rest size name version =
    sym (take-append-drop 8 rest) ∙ ap (λ (l : List ℕ). l ++ drop 8 rest) name
    ∙ ap (λ (l : List ℕ). codes "spooljnl" ++ l) version

pub born_head : (head file : List ℕ) → length head ≡ 13 → 14 ≤ length file → head ≡ take 13 file → get_or head 0 0 ≢ 0
    → take 8 (drop 1 head) ≡ codes "spooljnl"
    → 1 ≡ from_le_bytes w32 (get_or head 9 0 ∷ get_or head 10 0 ∷ get_or head 11 0 ∷ get_or head 12 0 ∷ [])
    → ((i : ℕ) → get_or (get_or head 9 0 ∷ get_or head 10 0 ∷ get_or head 11 0 ∷ get_or head 12 0 ∷ []) i 0 < 256)
    → ComesTo [] 13 file
born_head [] file size long is shown name version ranges = absurd (omega (arith, size))
born_head (gate ∷ rest) file size long is shown name version ranges =
    let four : List ℕ = get_or (gate ∷ rest) 9 0 ∷ get_or (gate ∷ rest) 10 0 ∷ get_or (gate ∷ rest) 11 0
    ∷ get_or (gate ∷ rest) 12 0 ∷ [] in
    let one : to_le_bytes w32 1 ≡ four = le_bytes_4 four 1 refl ranges version in
    let last : drop 8 rest ≡ 1 ∷ 0 ∷ 0 ∷ 0 ∷ [] = last_four (gate ∷ rest) size ∙ sym one in
    let all : rest ≡ heading = is_heading gate rest (omega (arith, size)) name last in
    record {
      front = gate ∷ rest;
      gate = get_or file 13 0;
      behind = drop 14 file;
      is_front = record {
        birth = gate;
        tail = [];
        born = shown;
        bytes = ap (λ (l : List ℕ). gate ∷ l) all;
        are_units = refl;
      };
      is_place = size;
      bytes = sym (take-append-drop 13 file) ∙ ap (λ (l : List ℕ). l ++ drop 13 file) (sym is)
          ∙ ap (λ (l : List ℕ). (gate ∷ rest) ++ l) (drop_more file 13 0 (omega (arith, long)));
    }
