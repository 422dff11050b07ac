-- What is indexed after a change of one endpoint.
use Rattle.std.proofs.Common.{◌≡◌, ◌<◌, ◌==◌, ◌∙◌, ℕ, Bool, true, false, not, cond, List, [], ◌∷◌, ◌++◌, get_or}
use Rattle.std.proofs.Common.{Option, Some, None, refl, sym, ap, arith}
use Rattle.std.specs.Prelude.{◌≢◌, All}
use Rattle.std.proofs.lemmas.Bool.{cond-true, cond-false, eq-eqb, eqb-true, ne_eqb}
use Rattle.std.proofs.lemmas.List.Elements.{All-append, All-cons, All-head, All-nil, All-tail, All-weaker}
use Rattle.std.proofs.lemmas.List.Kept.{AllPairs-cons}
use Rattle.sp_endpoint.specs.Endpoint.{EndpointView}
use Rattle.sp_endpoint.specs.Endpoints.{numbered, replaced, without_endpoint}
use Rattle.sp_endpoint.specs.Index.{ChangesOne, texts, texts_of}
use Rattle.sp_endpoint.proofs.Places.{Below, IsOther, Rise, none_found, one_found, pairs_head, pairs_tail}
use Rattle.sp_base.specs.Rows.{IsPlace}

abbrev pub at : List EndpointView → ℕ → Option EndpointView
at es number = numbered number es

-- an endpoint with a number above all others comes
comes_own : (e : EndpointView) (es : List EndpointView) → All (λ x. x.number < e.number) es →
    numbered e.number (es ++ e ∷ []) ≡ Some e
comes_own e [] below = cond-true (e.number == e.number) (Some e) None (eq-eqb e.number e.number refl)
comes_own e (x ∷ xs) below =
    let less = All-head (λ y. y.number < e.number) x xs below in
    cond-false (x.number == e.number) (Some x) (numbered e.number (xs ++ e ∷ []))
    (ne_eqb x.number e.number (λ same. omega (arith, less, same)))
    ∙ comes_own e xs (All-tail (λ y. y.number < e.number) x xs below)

comes_others : (e : EndpointView) (es : List EndpointView) (n : ℕ) → n ≢ e.number →
    numbered n (es ++ e ∷ []) ≡ numbered n es
comes_others e [] n other = cond-false (e.number == n) (Some e) None (ne_eqb e.number n (λ same. other (sym same)))
comes_others e (x ∷ xs) n other = ap (λ o. cond (x.number == n) (Some x) o) (comes_others e xs n other)

pub comes : (e : EndpointView) (es : List EndpointView) → All (λ x. x.number < e.number) es →
    ChangesOne e.number (Some e) (at es) (at (es ++ e ∷ []))
comes e es below = record { own = comes_own e es below; others = comes_others e es }

pub none_there : (e : EndpointView) (es : List EndpointView) → All (λ x. x.number < e.number) es →
    numbered e.number es ≡ None
none_there e es below =
    sym (none_found e.number es
    (All-weaker (λ (x : EndpointView). x.number < e.number) (IsOther e.number)
    (λ x less same. omega (arith, less, same)) es below))

pub rise_more : (e : EndpointView) (es : List EndpointView) → All (λ x. x.number < e.number) es → Rise es →
    Rise (es ++ e ∷ [])
rise_more e [] below rise = AllPairs-cons Below e [] (All-nil (Below e)) rise
rise_more e (x ∷ xs) below rise =
    AllPairs-cons Below x (xs ++ e ∷ [])
    (All-append (Below x) xs (e ∷ []) (pairs_head Below x xs rise)
    (All-cons (Below x) e [] (All-head (λ y. y.number < e.number) x xs below) (All-nil (Below x))))
    (rise_more e xs (All-tail (λ y. y.number < e.number) x xs below) (pairs_tail Below x xs rise))

-- an endpoint stands in the place of the one of its number
becomes_own : (new old : EndpointView) (es : List EndpointView) → Some old ≡ numbered new.number es →
    numbered new.number (replaced new es) ≡ Some new
becomes_own new old [] there = absurd (cc)
becomes_own new old (x ∷ xs) there = one (x.number == new.number) refl there (λ h. becomes_own new old xs h)
  where
    one : (b : Bool) → (x.number == new.number) ≡ b → Some old ≡ cond b (Some x) (numbered new.number xs) →
        (Some old ≡ numbered new.number xs → numbered new.number (replaced new xs) ≡ Some new) →
        cond ((cond b new x).number == new.number) (Some (cond b new x)) (numbered new.number (replaced new xs)) ≡
        Some new
    one true is h later =
        cond-true (new.number == new.number) (Some new) (numbered new.number (replaced new xs))
        (eq-eqb new.number new.number refl)
    one false is h later =
        cond-false (x.number == new.number) (Some x) (numbered new.number (replaced new xs)) is ∙ later h

becomes_others : (new : EndpointView) (es : List EndpointView) (n : ℕ) → n ≢ new.number →
    numbered n (replaced new es) ≡ numbered n es
becomes_others new [] n other = refl
becomes_others new (x ∷ xs) n other = one (x.number == new.number) refl (becomes_others new xs n other)
  where
    one : (b : Bool) → (x.number == new.number) ≡ b → numbered n (replaced new xs) ≡ numbered n xs →
        cond ((cond b new x).number == n) (Some (cond b new x)) (numbered n (replaced new xs)) ≡ cond (x.number == n)
        (Some x) (numbered n xs)
    one true is later =
        let same = eqb-true x.number new.number is in
        cond-false (new.number == n) (Some new) (numbered n (replaced new xs))
        (ne_eqb new.number n (λ e. other (sym e)))
        ∙ later ∙ sym
        (cond-false (x.number == n) (Some x) (numbered n xs) (ne_eqb x.number n (λ e. other (sym e ∙ same))))
    one false is later = ap (λ o. cond (x.number == n) (Some x) o) later

pub becomes : (new old : EndpointView) (es : List EndpointView) → Some old ≡ numbered new.number es →
    ChangesOne new.number (Some new) (at es) (at (replaced new es))
becomes new old es there = record { own = becomes_own new old es there; others = becomes_others new es }

-- the endpoint of a number goes
goes_own : (number : ℕ) (es : List EndpointView) → numbered number (without_endpoint number es) ≡ None
goes_own number [] = refl
goes_own number (x ∷ xs) = one (x.number == number) refl (goes_own number xs)
  where
    one : (b : Bool) → (x.number == number) ≡ b → numbered number (without_endpoint number xs) ≡ None →
        numbered number (cond (not b) (x ∷ without_endpoint number xs) (without_endpoint number xs)) ≡ None
    one true is later = later
    one false is later = cond-false (x.number == number) (Some x) (numbered number (without_endpoint number xs)) is
        ∙ later

goes_others : (number : ℕ) (es : List EndpointView) (n : ℕ) → n ≢ number →
    numbered n (without_endpoint number es) ≡ numbered n es
goes_others number [] n other = refl
goes_others number (x ∷ xs) n other = one (x.number == number) refl (goes_others number xs n other)
  where
    one : (b : Bool) → (x.number == number) ≡ b → numbered n (without_endpoint number xs) ≡ numbered n xs →
        numbered n (cond (not b) (x ∷ without_endpoint number xs) (without_endpoint number xs)) ≡ cond
        (x.number == n) (Some x) (numbered n xs)
    one true is later =
        let same = eqb-true x.number number is in
        later ∙ sym (cond-false (x.number == n) (Some x) (numbered n xs)
        (ne_eqb x.number n (λ e. other (sym e ∙ same))))
    one false is later = ap (λ o. cond (x.number == n) (Some x) o) later

pub goes : (number : ℕ) (es : List EndpointView) → ChangesOne number None (at es) (at (without_endpoint number es))
goes number es = record { own = goes_own number es; others = goes_others number es }

-- where no endpoint has the number, none goes
pub none_goes : (number : ℕ) (es : List EndpointView) → All (IsOther number) es → es ≡ without_endpoint number es
none_goes number [] all = refl
none_goes number (x ∷ xs) all =
    ap (λ ys. x ∷ ys) (none_goes number xs (All-tail (IsOther number) x xs all))
    ∙ (λ i. cond (not (sym (ne_eqb x.number number (All-head (IsOther number) x xs all)) i))
    (x ∷ without_endpoint number xs) (without_endpoint number xs))

-- what is at the place of a number
pub there : (number : ℕ) (es : List EndpointView) (place : ℕ) (e : EndpointView) → Rise es →
    IsPlace (λ (x : EndpointView). x.number) es number (Some place) →
    e ≡ get_or es place e → Some e ≡ numbered number es
there number es place e rise here is = ap Some is ∙ one_found number es place e rise here.0 (here.1 e)

pub texts_there : (number : ℕ) (es : List EndpointView) (place : ℕ) (e : EndpointView) (ts : List (List ℕ)) → Rise es →
    IsPlace (λ (x : EndpointView). x.number) es number (Some place) → e ≡ get_or es place e → ts ≡ texts e.kind e →
    texts_of (numbered number es) ≡ ts
texts_there number es place e ts rise here is are = ap texts_of (sym (there number es place e rise here is)) ∙ sym are
