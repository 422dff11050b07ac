-- Where the endpoint of a number stands, and what it is when another is put there.
use Rattle.std.proofs.Common.{◌≡◌, ◌<◌, ◌==◌, ℕ, zero, suc, Bool, true, false, cond, List, [], ◌∷◌, map, length}
use Rattle.std.proofs.Common.{get_or, Some, None, refl, sym, ap, ◌∙◌, arith}
use Rattle.std.specs.Prelude.{All, AllPairs, ◌≢◌}
use Rattle.std.proofs.Math.ListN.{set}
use Rattle.std.proofs.lemmas.Bool.{eqb-true, eq-eqb}
use Rattle.std.proofs.lemmas.List.Elements.{All-head, All-tail, All-weaker, All-map}
use Rattle.std.proofs.lemmas.List.Kept.{AllPairs-cons}
use Rattle.sp_endpoint.specs.Endpoint.{EndpointView}
use Rattle.sp_endpoint.specs.Endpoints.{numbered, replaced}

-- the parts of a list whose elements stand in a relation to all later ones
pub pairs_head : {X : Type 0} (R : X → X → Type 0) (x : X) (xs : List X) → AllPairs R (x ∷ xs) → All (R x) xs
pairs_head R x xs p k d lt = p 0 (suc k) d (omega arith) (omega arith)

pub pairs_tail : {X : Type 0} (R : X → X → Type 0) (x : X) (xs : List X) → AllPairs R (x ∷ xs) → AllPairs R xs
pairs_tail R x xs p i j d lt le = p (suc i) (suc j) d (omega arith) (omega arith)

abbrev pub Below : EndpointView → EndpointView → Type 0
Below a b = a.number < b.number

abbrev pub Rise : List EndpointView → Type 0
Rise es = AllPairs Below es

abbrev pub IsOther : ℕ → EndpointView → Type 0
IsOther number e = e.number ≢ number

other_test : (m n : ℕ) → m ≢ n → (m == n) ≡ false
other_test m n h = one (m == n) refl
  where
    one : (b : Bool) → (m == n) ≡ b → (m == n) ≡ false
    one false is = is
    one true is = absurd (h (eqb-true m n is))

above : (e : EndpointView) (number : ℕ) (es : List EndpointView) → e.number ≡ number → Rise (e ∷ es) →
    All (IsOther number) es
above e number es is rise =
    All-weaker (Below e) (IsOther number) (λ x less same. omega (arith, less, is, same)) es (pairs_head Below e es rise)

-- where no endpoint has the number none is found, and none replaced
pub none_found : (number : ℕ) (es : List EndpointView) → All (IsOther number) es → None ≡ numbered number es
none_found number [] all = refl
none_found number (e ∷ es) all =
    none_found number es (All-tail (IsOther number) e es all)
    ∙ (λ i. cond (sym (other_test e.number number (All-head (IsOther number) e es all)) i) (Some e)
    (numbered number es))

pub none_replaced : (new : EndpointView) (es : List EndpointView) → All (IsOther new.number) es → es ≡ replaced new es
none_replaced new [] all = refl
none_replaced new (e ∷ es) all =
    ap (λ (xs : List EndpointView). e ∷ xs) (none_replaced new es (All-tail (IsOther new.number) e es all))
    ∙ (λ i. cond (sym (other_test e.number new.number (All-head (IsOther new.number) e es all)) i) new e ∷ replaced
    new es)

lesser : (e : EndpointView) (es : List EndpointView) (i : ℕ) (d : EndpointView) (number : ℕ) → Rise (e ∷ es) →
    i < length es → (get_or es i d).number ≡ number → e.number ≢ number
lesser e es i d number rise lt is same = let less = pairs_head Below e es rise i d lt in omega (arith, less, is, same)

-- the endpoint at the place of its number is found, and replaced
pub one_found : (number : ℕ) (es : List EndpointView) (place : ℕ) (d : EndpointView) → Rise es → place < length es →
    (get_or es place d).number ≡ number → Some (get_or es place d) ≡ numbered number es
one_found number [] place d rise lt is = absurd (omega (arith, lt))
one_found number (e ∷ es) zero d rise lt is =
    λ i. cond (sym (eq-eqb e.number number is) i) (Some e) (numbered number es)
one_found number (e ∷ es) (suc place) d rise lt is =
    one_found number es place d (pairs_tail Below e es rise) (omega (arith, lt)) is
    ∙ (λ i. cond (sym (other_test e.number number (lesser e es place d number rise (omega (arith, lt)) is)) i)
    (Some e) (numbered number es))

pub one_replaced : (new : EndpointView) (es : List EndpointView) (place : ℕ) → Rise es → place < length es →
    (get_or es place new).number ≡ new.number → set es place new ≡ replaced new es
one_replaced new [] place rise lt is = absurd (omega (arith, lt))
one_replaced new (e ∷ es) zero rise lt is =
    ap (λ (xs : List EndpointView). new ∷ xs) (none_replaced new es (above e new.number es is rise))
    ∙ (λ i. cond (sym (eq-eqb e.number new.number is) i) new e ∷ replaced new es)
one_replaced new (e ∷ es) (suc place) rise lt is =
    ap (λ (xs : List EndpointView). e ∷ xs)
    (one_replaced new es place (pairs_tail Below e es rise) (omega (arith, lt)) is)
    ∙ (λ i. cond
    (sym (other_test e.number new.number (lesser e es place new new.number rise (omega (arith, lt)) is)) i) new e
    ∷ replaced new es)

-- the numbers rise as before
same_number : (new e : EndpointView) → (cond (e.number == new.number) new e).number ≡ e.number
same_number new e = one (e.number == new.number) refl
  where
    one : (b : Bool) → (e.number == new.number) ≡ b → (cond b new e).number ≡ e.number
    one true is = sym (eqb-true e.number new.number is)
    one false is = refl

pub replaced_rise : (new : EndpointView) (es : List EndpointView) → Rise es → Rise (replaced new es)
replaced_rise new [] rise = rise
replaced_rise new (e ∷ es) rise =
    let put : EndpointView → EndpointView = λ x. cond (x.number == new.number) new x in
    AllPairs-cons Below (put e) (map put es)
    (All-map (Below (put e)) put es
    (All-weaker (Below e) (λ x. Below (put e) (put x))
    (λ x less. let a = same_number new e in let b = same_number new x in omega (arith, less, a, b)) es
    (pairs_head Below e es rise)))
    (replaced_rise new es (pairs_tail Below e es rise))
