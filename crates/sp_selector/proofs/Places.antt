-- Where reading a text stops is where it is bad.
use Rattle.std.proofs.Common.{◌≡◌, ◌∙◌, ◌+◌, ◌-◌, ◌<◌, ◌≤◌, ◌++◌, ℕ, zero, suc, Bool, true, false, cond, List, [], ◌∷◌, length, take, Option, Some, None, Result, Ok, Err, refl, sym, ap, subst, append_assoc, append-nil, length-append, arith}
use Rattle.std.specs.Prelude.{◌==◌, ◌&&◌, nat_lt}
use Rattle.std.proofs.lemmas.Bool.{ltb-true, ltb-false}
use Rattle.std.proofs.lemmas.List.{get_or_default, get_or_past}
use Rattle.std.proofs.Math.Seq.{take-append_seam, take-append-add}
use Rattle.sp_base.specs.Topic.{first_bad_byte}
use Rattle.sp_selector.specs.declared.parse.Chain.TheVariants.{Disjunction}
use Rattle.sp_selector.specs.declared.token.Token.{Token}
use Rattle.sp_selector.specs.Grammar.{Chained, Derives}
use Rattle.sp_selector.specs.Limit.{allowed}
use Rattle.sp_selector.specs.Places.{IsTokens, CanGoOn, CannotGoOn, CannotFollow, NoToken, MoreMissing, IsBadAt}
use Rattle.sp_selector.specs.Places as bad
use Rattle.sp_selector.specs.Scan.{Scanned, Found, scan, found_at, token_at, is_separator, counted}
use Rattle.sp_selector.specs.Selector.{reading_of, place_in, judged, judgement, where_utf8, selector_in}
use Rattle.sp_selector.specs.Tree.{Expression}
use Rattle.sp_selector.proofs.Parts.{Beyond, parts, counted_front}
use Rattle.sp_selector.proofs.Readings.{chosen}
use Rattle.sp_selector.proofs.Selectors.{reading_sound, selector_complete}
use Rattle.sp_selector.proofs.Stuck.{stopped, read_goes, near_front, stuck_stays}

-- each token has a place
places_found : (at : ℕ) (f : Found) (more : ℕ → Scanned) → ((k : ℕ) → length (more k).places ≡ length (more k).tokens) → length (found_at at f more).places ≡ length (found_at at f more).tokens
places_found at None more each = refl
places_found at (Some x) more each = ap suc (each (x.1 - 1))

places_of : (skip at : ℕ) (text : List ℕ) → length (scan skip at text).places ≡ length (scan skip at text).tokens
places_of zero at [] = refl
places_of (suc skip) at [] = refl
places_of (suc skip) at (b ∷ bs) = places_of skip (at + 1) bs
places_of zero at (b ∷ bs) =
    let more : ℕ → Scanned = λ skip. scan skip (at + 1) bs in
    elim (is_separator b) as (λ t. length (cond t (more 0) (found_at at (token_at (b ∷ bs)) more)).places ≡ length (cond t (more 0) (found_at at (token_at (b ∷ bs)) more)).tokens) [
      | true ↦ places_of 0 (at + 1) bs
      | false ↦ places_found at (token_at (b ∷ bs)) more (λ k. places_of k (at + 1) bs)
    ]

-- tokens that go up to the end of the text end there
end_found : (at end : ℕ) (f : Found) (more : ℕ → Scanned) → ((k : ℕ) → (more k).whole ≡ true → (more k).end ≡ end) → (found_at at f more).whole ≡ true → (found_at at f more).end ≡ end
end_found at end None more each h = cc
end_found at end (Some x) more each h = each (x.1 - 1) h

end_of : (skip at : ℕ) (text : List ℕ) → (scan skip at text).whole ≡ true → (scan skip at text).end ≡ at + length text
end_of zero at [] h = omega arith
end_of (suc skip) at [] h = omega arith
end_of (suc skip) at (b ∷ bs) h = omega (arith, end_of skip (at + 1) bs h)
end_of zero at (b ∷ bs) h =
    let more : ℕ → Scanned = λ skip. scan skip (at + 1) bs in
    chosen_end (is_separator b) (more 0) (found_at at (token_at (b ∷ bs)) more) (λ g. omega (arith, end_of 0 (at + 1) bs g))
    (end_found at (at + suc (length bs)) (token_at (b ∷ bs)) more (λ k g. omega (arith, end_of k (at + 1) bs g))) h
  where
    chosen_end : (t : Bool) (r s : Scanned) → (r.whole ≡ true → r.end ≡ at + suc (length bs)) → (s.whole ≡ true → s.end ≡ at + suc (length bs)) → (cond t r s).whole ≡ true → (cond t r s).end ≡ at + suc (length bs)
    chosen_end true r s first second h = first h
    chosen_end false r s first second h = second h

-- after some tokens the next one can't follow
cannot_follow : (s : Scanned) (at : ℕ) (before : List Token) (t : Token) (after : List Token) → length s.places ≡ length s.tokens → s.tokens ≡ before ++ t ∷ after → CanGoOn before → CannotGoOn (before ++ t ∷ []) → at ≡ place_in s (length before) → CannotFollow s at
cannot_follow s at before t after each all goes not_with place =
    let within : length before < length s.tokens = omega (arith, ap (length {A = Token}) all, length-append before (t ∷ after)) in
    record {
      index = length before;
      token = within;
      before = subst CanGoOn (sym (ap (take (length before)) all ∙ take-append_seam before (t ∷ after))) goes;
      with_it = subst CannotGoOn (sym (ap (take (length before + 1)) all ∙ take-append-add before (t ∷ after) 1)) not_with;
      place = place ∙ get_or_default s.places (length before) s.end 0 (omega arith);
    }

module _ (text : List ℕ) (at : ℕ) (short : length text ≤ 2000) (utf8 : first_bad_byte text ≡ None) (answered : selector_in text ≡ Err at) where
  all_go : (w : Bool) → (scan 0 0 text).whole ≡ w → CanGoOn (scan 0 0 text).tokens → at ≡ (scan 0 0 text).end → IsBadAt text at
  all_go false all goes place = bad.no_token short utf8 (record { before = goes; none = all; place = place })
  all_go true all goes place =
      bad.too_short short utf8 (record {
        before = goes;
        all = all;
        none = λ e is. absurd (not_both (selector_in text) at e answered (selector_complete text e (record { short = short; utf8 = utf8; whole = all; few = is.few; derived = is.derived })));
        place = place ∙ end_of 0 0 text all ∙ omega arith;
      })
    where
      not_both : (r : Result Expression ℕ) (k : ℕ) (e : Expression) → r ≡ Err k → r ≡ Ok e → ⊥
      not_both r k e p q = cc

  -- all tokens before the one beyond the limit can go on
  front_goes : (front behind : List Token) → (scan 0 0 text).tokens ≡ front ++ behind → Beyond 200 false front behind → CanGoOn front → at ≡ place_in (scan 0 0 text) (length front) → IsBadAt text at
  front_goes front [] all beyond goes place =
      let same : (scan 0 0 text).tokens ≡ front = all ∙ append-nil front in
      all_go (scan 0 0 text).whole refl (subst CanGoOn (sym same) goes)
      (place ∙ get_or_past (scan 0 0 text).places (length front) (scan 0 0 text).end (omega (arith, places_of 0 0 text, ap (length {A = Token}) same)))
  front_goes front (t ∷ behind) all beyond goes place =
      bad.bad_token short utf8 (cannot_follow (scan 0 0 text) at front t behind (places_of 0 0 text) all goes
      (λ more e is. absurd (omega (arith, is.few, counted_front false (front ++ t ∷ []) more))) place)

  stops : (front behind : List Token) → (scan 0 0 text).tokens ≡ front ++ behind → Beyond 200 false front behind → (k : ℕ) → reading_of front ≡ Err k → (before after : List Token) → front ≡ before ++ after → length after ≡ k → CanGoOn before → at ≡ place_in (scan 0 0 text) (length front - k) → IsBadAt text at
  stops front behind all beyond k h before [] cut left goes place =
      let same : front ≡ before = cut ∙ append-nil before in
      let none : length front - k ≡ length front = omega (arith, left) in
      front_goes front behind all beyond (subst CanGoOn (sym same) goes) (place ∙ ap (place_in (scan 0 0 text)) none)
  stops front behind all beyond k h before (t ∷ after) cut left goes place =
      let index : length front - k ≡ length before = omega (arith, left, ap (length {A = Token}) cut, length-append before (t ∷ after)) in
      bad.bad_token short utf8 (cannot_follow (scan 0 0 text) at before t (after ++ behind) (places_of 0 0 text)
      (all ∙ ap (λ ts. ts ++ behind) cut ∙ append_assoc before (t ∷ after) behind) goes
      (λ more e is. stuck_stays (before ++ t ∷ after) (before ++ t ∷ more) (suc (length after)) e
      (ap reading_of (sym cut) ∙ h ∙ ap Err (sym left)) (omega arith) (near_front before t after more)
      (subst (λ ts. Derives (Chained Disjunction) ts e []) (append_assoc before (t ∷ []) more) is.derived))
      (place ∙ ap (place_in (scan 0 0 text)) index))

  judged_bad : (front behind : List Token) → (scan 0 0 text).tokens ≡ front ++ behind → Beyond 200 false front behind → counted false front ≤ 200 → (r : Result Expression ℕ) → reading_of front ≡ r → judged (scan 0 0 text) (length front) r ≡ Err at → IsBadAt text at
  judged_bad front behind all beyond few (Err k) read h =
      let c = stopped front k few read in
      stops front behind all beyond k read c.before c.after c.all c.left c.goes (cc)
  judged_bad front behind all beyond few (Ok e) read h =
      chosen ((length front == length (scan 0 0 text).tokens) && (scan 0 0 text).whole) _ _ _ h (λ t g. cc)
      (λ t g. front_goes front behind all beyond (read_goes front e few (reading_sound front e read)) (cc))

  tokens_bad : judgement (scan 0 0 text) ≡ Err at → IsBadAt text at
  tokens_bad h =
      let ts = (scan 0 0 text).tokens in
      let p = parts 200 false ts in
      let taken : take (allowed 200 false ts) ts ≡ p.front = ap (λ n. take n ts) (sym p.many) ∙ ap (take (length p.front)) p.all ∙ take-append_seam p.front p.behind in
      judged_bad p.front p.behind p.all p.beyond p.few (reading_of p.front) refl
      (ap (λ n. judged (scan 0 0 text) n (reading_of p.front)) p.many ∙ ap (λ us. judged (scan 0 0 text) (allowed 200 false ts) (reading_of us)) (sym taken) ∙ h)

where_bad : (text : List ℕ) (at : ℕ) → length text ≤ 2000 → selector_in text ≡ Err at → (o : Option ℕ) → first_bad_byte text ≡ o → where_utf8 o (judgement (scan 0 0 text)) ≡ Err at → IsBadAt text at
where_bad text at short answered None utf8 h = tokens_bad text at short utf8 answered h
where_bad text at short answered (Some k) utf8 h = bad.bad_byte short (utf8 ∙ ap Some (cc))

pub place_is_bad : (text : List ℕ) (at : ℕ) → selector_in text ≡ Err at → IsBadAt text at
unfolding selector_in
place_is_bad text at h =
    chosen (nat_lt 2000 (length text)) _ _ _ h
    (λ t g. bad.too_long (ltb-true _ _ t) (cc))
    (λ t g. where_bad text at (ltb-false _ _ t) h (first_bad_byte text) refl g)
