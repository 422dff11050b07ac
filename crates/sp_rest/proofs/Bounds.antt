-- What is unfinished is shorter than the longest head and the longest body together.
use Rattle.std.proofs.Common.{◌≡◌, ℕ, ◌<◌, ◌≤◌, inl, inr, Bool, true, false, ◌&&◌, List, [], ◌∷◌, ◌++◌, length, length-append, take, drop, map, sym, ap, ◌∙◌, arith, take-append-drop, append_assoc, Some, None, refl}
use Rattle.std.specs.Prelude.{nat_le, unwrap_or}
use Rattle.std.specs.List.{filter}
use Rattle.std.specs.Str.Parse.{digits_value}
use Rattle.std.proofs.lemmas.Bool.{cond-false, and_parts, leb-true, leb-false}
use Rattle.std.proofs.lemmas.Option.{cond_some}
use Rattle.std.proofs.lemmas.List.{take-append-le, take_at}
use Rattle.httparse.specs.Grammar.{print_request}
use Rattle.httparse.specs.Spans.{name_and_value}
use Rattle.sp_rest.specs.Wire.Parts.{Request}
use Rattle.sp_rest.specs.declared.wire.request.Cut.{Cut}
use Rattle.sp_rest.specs.declared.wire.request.Cut.TheVariants.{Whole, Partial, Hopeless}
use Rattle.sp_rest.specs.Wire.Request.{is_number, length_by, body_length, Begins, NoRequest, MayBecome}
use Rattle.sp_rest.specs.Wire.Cutting.{OnPartial}
use Rattle.sp_rest.proofs.Fields.{Pair, is_size, good_parts}

length_small : (pairs : List Pair) (n : ℕ) → length_by pairs ≡ Some n → n ≤ 8388608
length_small [] n e = let none : 0 ≡ n = ap (λ o. unwrap_or o 0) e in omega arith
length_small (pair ∷ []) n e =
    let both = cond_some (is_number pair.1 && nat_le (digits_value 10 pair.1) 8388608) (digits_value 10 pair.1) n e in
    let parts = and_parts (is_number pair.1) (nat_le (digits_value 10 pair.1) 8388608) both.0 in
    let small = leb-true (digits_value 10 pair.1) 8388608 parts.1 in
    let is = both.1 in
    omega arith
length_small (pair ∷ other ∷ pairs) n e = let none : None ≡ Some n = e in absurd (cc)

-- no head gives a longer body
pub body_small : (pairs : List Pair) (n : ℕ) → body_length pairs ≡ Some n → n ≤ 8388608
body_small pairs n e =
    let parts = good_parts pairs (n, e) in
    length_small (filter is_size pairs) n (sym (cond-false _ _ _ parts.plain) ∙ e)

-- a request that ends within the bytes stays one without what follows them
begins_front : (bytes more : List ℕ) (request : Request) (used : ℕ) → Begins (bytes ++ more) request used
    → used ≤ length bytes → Begins bytes request used
begins_front bytes more request used b fits =
    let p = print_request b.h in
    let front = p ++ b.body in
    let size : length front ≡ used = let is = b.used_is in omega (arith, length-append p b.body) in
    let whole : bytes ++ more ≡ front ++ b.rest = b.head.reads.1 ∙ sym (append_assoc p b.body b.rest) in
    let same : take used bytes ≡ front = sym (take-append-le used bytes more fits) ∙ ap (take used) whole
    ∙ take_at front b.rest used size in
    let again : bytes ≡ p ++ (b.body ++ drop used bytes) =
    sym (take-append-drop used bytes) ∙ ap (λ (t : List ℕ). t ++ drop used bytes) same ∙ append_assoc p b.body (drop used bytes) in
    record {
      h = b.h;
      body = b.body;
      rest = drop used bytes;
      head = record { reads = (b.head.reads.0, again); short = b.head.short; few = b.head.few; body = b.head.body };
      request_is = b.request_is;
      used_is = b.used_is;
    }

-- what isn't a request yet is shorter than the request that it becomes
pub partial_short : (bytes : List ℕ) (cut : Cut) → OnPartial cut (NoRequest bytes) → OnPartial cut (MayBecome bytes)
    → OnPartial cut (length bytes < 8396800)
partial_short bytes (Whole request used) none may = tt
partial_short bytes Hopeless none may = tt
partial_short bytes Partial none (inr target) = let short = target.short in omega arith
partial_short bytes Partial none (inl (more, request, used, b)) = by_test (nat_le used (length bytes)) refl
  where
    by_test : (t : Bool) → nat_le used (length bytes) ≡ t → length bytes < 8396800
    by_test true fits = absurd (none request used (begins_front bytes more request used b (leb-true used (length bytes) fits)))
    by_test false longer =
        let beyond = leb-false used (length bytes) longer in
        let small = body_small (map name_and_value b.h.fields) (length b.body) b.head.body in
        let short = b.head.short in
        let is = b.used_is in
        omega arith
