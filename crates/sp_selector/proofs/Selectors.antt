-- A text's tree is what its reading gives, and the other way round.
use Rattle.std.proofs.Common.{◌≡◌, ◌∙◌, ◌+◌, ◌-◌, ◌*◌, ◌≤◌, ℕ, zero, suc, Bool, true, false, cond, List, [], ◌∷◌, length, take, Option, Some, None, Result, Ok, Err, refl, ap, subst, arith}
use Rattle.std.specs.Prelude.{◌==◌, ◌&&◌, nat_lt}
use Rattle.std.proofs.lemmas.Bool.{cond-true, cond-false, le-ltb, ltb-false, and_from}
use Rattle.std.proofs.lemmas.Bool.Decides.{nat_tests}
use Rattle.std.proofs.lemmas.List.{take_all}
use Rattle.sp_base.specs.Topic.{first_bad_byte}
use Rattle.sp_selector.specs.declared.parse.Chain.TheVariants.{Disjunction}
use Rattle.sp_selector.specs.declared.token.Token.{Token}
use Rattle.sp_selector.specs.Grammar.{Chained, Derives}
use Rattle.sp_selector.specs.Limit.{allowed}
use Rattle.sp_selector.specs.Parser.{◌>>=◌, Whole, reads}
use Rattle.sp_selector.specs.Scan.{Scanned, Found, scan, found_at, token_at, is_separator}
use Rattle.sp_selector.specs.Selector.{IsSelector, all_used, reading_of, judged, judgement, where_utf8, selector_in}
use Rattle.sp_selector.specs.Tree.{Expression}
use Rattle.sp_selector.proofs.Complete.{all_read}
use Rattle.sp_selector.proofs.Limits.{allowed-counted, counted-allowed}
use Rattle.sp_selector.proofs.Readings.{bind_ok, chosen}
use Rattle.sp_selector.proofs.Sound.{reads_sound}

-- a text has no more tokens than bytes
short_found : (at : ℕ) (f : Found) (more : ℕ → Scanned) (n : ℕ) → ((k : ℕ) → length (more k).tokens ≤ n) → length (found_at at f more).tokens ≤ suc n
short_found at None more n few = omega arith
short_found at (Some x) more n few = omega (arith, few (x.1 - 1))

pub few_tokens : (skip at : ℕ) (text : List ℕ) → length (scan skip at text).tokens ≤ length text
few_tokens zero at [] = omega arith
few_tokens (suc skip) at [] = omega arith
few_tokens (suc skip) at (b ∷ bs) = omega (arith, few_tokens skip (at + 1) bs)
few_tokens zero at (b ∷ bs) =
    let more : ℕ → Scanned = λ skip. scan skip (at + 1) bs in
    elim (is_separator b) as (λ t. length (cond t (more 0) (found_at at (token_at (b ∷ bs)) more)).tokens ≤ suc (length bs)) [
      | true ↦ omega (arith, few_tokens 0 (at + 1) bs)
      | false ↦ short_found at (token_at (b ∷ bs)) more (length bs) (λ k. few_tokens k (at + 1) bs)
    ]

used_all : (e f : Expression) (rest : List Token) → all_used e rest ≡ Ok f → (rest ≡ []) × (e ≡ f)
used_all e f [] h = (refl, cc)
used_all e f (t ∷ ts) h = cc

pub reading_sound : (ts : List Token) (e : Expression) → reading_of ts ≡ Ok e → Derives (Chained Disjunction) ts e []
reading_sound ts e h =
    let b = bind_ok (reads (10 * length ts + 10) (Whole (Chained Disjunction)) ts) _ _ h in
    let u = used_all b.0.0 e b.0.1 b.2 in
    subst (λ f. Derives (Chained Disjunction) ts f []) u.1 (subst (λ rs. Derives (Chained Disjunction) ts b.0.0 rs) u.0 (reads_sound (10 * length ts + 10) (Whole (Chained Disjunction)) ts b.0.0 b.0.1 b.1))

reading_complete : (ts : List Token) (e : Expression) → Derives (Chained Disjunction) ts e [] → reading_of ts ≡ Ok e
reading_complete ts e d = ap (λ r. r >>= λ x. all_used x.0 x.1) (all_read ts e (10 * length ts + 10) d (omega arith))

both_hold : (a b : Bool) → (a && b) ≡ true → (a ≡ true) × (b ≡ true)
both_hold true b h = (refl, h)
both_hold false b h = cc

same_number : (m n : ℕ) → (m == n) ≡ true → m ≡ n
same_number m n h = grind (arith, nat_tests)

judged_sound : (s : Scanned) (usable : ℕ) (r : Result Expression ℕ) (e : Expression) → judged s usable r ≡ Ok e → (r ≡ Ok e) × (usable ≡ length s.tokens) × (s.whole ≡ true)
judged_sound s usable (Err left) e h = cc
judged_sound s usable (Ok f) e h =
    chosen ((usable == length s.tokens) && s.whole) _ _ _ h
    (λ t g. let b = both_hold (usable == length s.tokens) s.whole t in (g, same_number usable (length s.tokens) b.0, b.1))
    (λ t g. cc)

judgement_sound : (text : List ℕ) (e : Expression) → length text ≤ 2000 → first_bad_byte text ≡ None → judgement (scan 0 0 text) ≡ Ok e → IsSelector text e
judgement_sound text e short utf8 h =
    let s = scan 0 0 text in
    let usable = allowed 200 false s.tokens in
    let j = judged_sound s usable (reading_of (take usable s.tokens)) e h in
    let all : take usable s.tokens ≡ s.tokens = take_all usable s.tokens (omega (arith, j.1)) in
    record {
      short = short;
      utf8 = utf8;
      whole = j.2;
      few = counted-allowed 200 false s.tokens j.1;
      derived = reading_sound s.tokens e (subst (λ ts. reading_of ts ≡ Ok e) all j.0);
    }

where_sound : (o : Option ℕ) (r : Result Expression ℕ) (e : Expression) → where_utf8 o r ≡ Ok e → (o ≡ None) × (r ≡ Ok e)
where_sound None r e h = (refl, h)
where_sound (Some at) r e h = cc

pub selector_sound : (text : List ℕ) (e : Expression) → selector_in text ≡ Ok e → IsSelector text e
unfolding selector_in
selector_sound text e h =
    chosen (nat_lt 2000 (length text)) _ _ _ h (λ t g. cc)
    (λ t g. let w = where_sound (first_bad_byte text) (judgement (scan 0 0 text)) e g in
    judgement_sound text e (ltb-false _ _ t) w.0 w.1)

judged_complete : (s : Scanned) (usable : ℕ) (e : Expression) → usable ≡ length s.tokens → s.whole ≡ true → judged s usable (Ok e) ≡ Ok e
judged_complete s usable e all whole =
    let same : (usable == length s.tokens) ≡ true = grind (arith, nat_tests) in
    cond-true _ _ _ (and_from _ _ same whole)

pub selector_complete : (text : List ℕ) (e : Expression) → IsSelector text e → selector_in text ≡ Ok e
unfolding selector_in
selector_complete text e is =
    let s = scan 0 0 text in
    let usable = allowed 200 false s.tokens in
    let all : usable ≡ length s.tokens = allowed-counted 200 false s.tokens is.few in
    let same : take usable s.tokens ≡ s.tokens = take_all usable s.tokens (omega (arith, all)) in
    let read : reading_of (take usable s.tokens) ≡ Ok e = ap reading_of same ∙ reading_complete s.tokens e is.derived in
    cond-false _ _ _ (le-ltb 2000 (length text) is.short) ∙ ap (λ o. where_utf8 o (judgement s)) is.utf8 ∙ ap (judged s usable) read ∙ judged_complete s usable e all is.whole
