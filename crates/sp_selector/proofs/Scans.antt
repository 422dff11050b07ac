-- The tokens that were read so far, and those to come.
use Rattle.std.proofs.Common.{◌≡◌, ◌∙◌, ◌+◌, ◌-◌, ◌<◌, ℕ, zero, suc, Bool, true, false, List, [], ◌∷◌, ◌++◌, length, drop, get_or, Some, None, refl, ap, sym, append_assoc, append-nil, arith}
use Rattle.std.proofs.lemmas.Bool.{cond-true, cond-false}
use Rattle.std.proofs.lemmas.List.{drop_more, drop_all}
use Rattle.sp_selector.specs.declared.token.Token.{Token}
use Rattle.sp_selector.specs.Scan.{Scanned, scan, found_at, token_at, is_separator, with_token}

-- tokens that were read before, in front of others
abbrev pub with_tokens : List Token → List ℕ → Scanned → Scanned
with_tokens tokens places s = record { tokens = tokens ++ s.tokens; places = places ++ s.places; end = s.end; whole = s.whole }

pub record ScannedSoFar (text : List ℕ) (tokens : List Token) (places : List ℕ) (skip at : ℕ) : Type 0 where
  pub all : with_tokens tokens places (scan skip at (drop at text)) ≡ scan 0 0 text

pub nothing_scanned : (text : List ℕ) (tokens : List Token) (places : List ℕ) → tokens ≡ [] → places ≡ [] → ScannedSoFar text tokens places 0 0
nothing_scanned text tokens places no_tokens no_places = record {
  all = ap (λ ts. with_tokens ts places (scan 0 0 text)) no_tokens ∙ ap (λ ps. with_tokens [] ps (scan 0 0 text)) no_places;
}

pub skipped : (text : List ℕ) (tokens : List Token) (places : List ℕ) (skip at : ℕ) → at < length text → 0 < skip → ScannedSoFar text tokens places skip at → ScannedSoFar text tokens places (skip - 1) (at + 1)
skipped text tokens places zero at within some so_far = absurd (omega arith)
skipped text tokens places (suc skip) at within some so_far =
    let last : suc skip - 1 ≡ skip = omega arith in
    let same : scan (suc skip) at (drop at text) ≡ scan skip (at + 1) (drop (at + 1) text) = ap (scan (suc skip) at) (drop_more text at 0 within) in
    record {
      all = ap (λ n. with_tokens tokens places (scan n (at + 1) (drop (at + 1) text))) last ∙ ap (with_tokens tokens places) (sym same) ∙ so_far.all;
    }

pub separated : (text : List ℕ) (tokens : List Token) (places : List ℕ) (skip at : ℕ) → at < length text → skip ≡ 0 → true ≡ is_separator (get_or text at 0) → ScannedSoFar text tokens places skip at → ScannedSoFar text tokens places skip (at + 1)
separated text tokens places zero at within none sep so_far =
    let same : scan 0 at (drop at text) ≡ scan 0 (at + 1) (drop (at + 1) text) = ap (scan 0 at) (drop_more text at 0 within) ∙ cond-true _ _ _ (sym sep) in
    record { all = ap (with_tokens tokens places) (sym same) ∙ so_far.all }
separated text tokens places (suc skip) at within none sep so_far = absurd (omega arith)

begun : (text : List ℕ) (at : ℕ) → at < length text → false ≡ is_separator (get_or text at 0) → scan 0 at (drop at text) ≡ found_at at (token_at (drop at text)) (λ skip. scan skip (at + 1) (drop (at + 1) text))
begun text at within no_sep =
    let left = drop_more text at 0 within in
    ap (scan 0 at) left ∙ cond-false _ _ _ (sym no_sep) ∙ ap (λ ts. found_at at (token_at ts) (λ skip. scan skip (at + 1) (drop (at + 1) text))) (sym left)

pub one_token : (text : List ℕ) (tokens : List Token) (places : List ℕ) (skip at : ℕ) (t : Token) (len : ℕ) → at < length text → skip ≡ 0 → false ≡ is_separator (get_or text at 0) → Some (t, len) ≡ token_at (drop at text) → ScannedSoFar text tokens places skip at → ScannedSoFar text (tokens ++ t ∷ []) (places ++ at ∷ []) (len - 1) (at + 1)
one_token text tokens places (suc skip) at t len within none no_sep found so_far = absurd (omega arith)
one_token text tokens places zero at t len within none no_sep found so_far =
    let more = scan (len - 1) (at + 1) (drop (at + 1) text) in
    let same : scan 0 at (drop at text) ≡ with_token t at more = begun text at within no_sep ∙ ap (λ f. found_at at f (λ n. scan n (at + 1) (drop (at + 1) text))) (sym found) in
    record {
      all = ap (λ ts. record { tokens = ts; places = (places ++ at ∷ []) ++ more.places; end = more.end; whole = more.whole }) (append_assoc tokens (t ∷ []) more.tokens)
          ∙ ap (λ ps. record { tokens = tokens ++ t ∷ more.tokens; places = ps; end = more.end; whole = more.whole }) (append_assoc places (at ∷ []) more.places)
          ∙ ap (with_tokens tokens places) (sym same) ∙ so_far.all;
    }

ends : (text : List ℕ) (tokens : List Token) (places : List ℕ) (at : ℕ) (whole : Bool) → with_tokens tokens places (record { tokens = []; places = []; end = at; whole = whole }) ≡ scan 0 0 text → record { tokens = tokens; places = places; end = at; whole = whole } ≡ scan 0 0 text
ends text tokens places at whole e =
    ap (λ ts. record { tokens = ts; places = places; end = at; whole = whole }) (sym (append-nil tokens)) ∙ ap (λ ps. record { tokens = tokens ++ []; places = ps; end = at; whole = whole }) (sym (append-nil places)) ∙ e

pub no_token : (text : List ℕ) (tokens : List Token) (places : List ℕ) (skip at : ℕ) → at < length text → skip ≡ 0 → false ≡ is_separator (get_or text at 0) → None ≡ token_at (drop at text) → ScannedSoFar text tokens places skip at → record { tokens = tokens; places = places; end = at; whole = false } ≡ scan 0 0 text
no_token text tokens places (suc skip) at within none no_sep found so_far = absurd (omega arith)
no_token text tokens places zero at within none no_sep found so_far =
    ends text tokens places at false (ap (with_tokens tokens places) (sym (begun text at within no_sep ∙ ap (λ f. found_at at f (λ n. scan n (at + 1) (drop (at + 1) text))) (sym found))) ∙ so_far.all)

scan_nothing : (skip at : ℕ) → scan skip at [] ≡ record { tokens = []; places = []; end = at; whole = true }
scan_nothing zero at = refl
scan_nothing (suc skip) at = refl

pub all_scanned : (text : List ℕ) (tokens : List Token) (places : List ℕ) (skip at : ℕ) → at ≡ length text → ScannedSoFar text tokens places skip at → record { tokens = tokens; places = places; end = length text; whole = true } ≡ scan 0 0 text
all_scanned text tokens places skip at end so_far =
    let nothing : drop at text ≡ [] = drop_all at text (omega arith) in
    ap (λ n. record { tokens = tokens; places = places; end = n; whole = true }) (sym end)
    ∙ ends text tokens places at true (ap (with_tokens tokens places) (sym (ap (scan skip at) nothing ∙ scan_nothing skip at)) ∙ so_far.all)
