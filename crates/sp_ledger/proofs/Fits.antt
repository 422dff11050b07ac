-- What a tally counts and sums is bounded.
use Rattle.sp_copies.proofs.Marks.{eqb-turned}
use Rattle.sp_copies.specs.Counts.{is_of, made_count, used_in}
use Rattle.sp_copies.specs.History.{is_closed, is_open_in}
use Rattle.sp_copies.specs.declared.closed.ClosedCopy.{ClosedCopy}
use Rattle.sp_copies.specs.declared.made.MadeCopy.{MadeCopy}
use Rattle.sp_endpoint.specs.Endpoint.{EndpointView}
use Rattle.sp_endpoint.specs.Endpoints.{is_there}
use Rattle.sp_ledger.proofs.Listed.{and_both}
use Rattle.sp_ledger.proofs.Moving.{fewer_than_next}
use Rattle.sp_ledger.specs.Ledger.{Ledger}
use Rattle.sp_ledger.specs.Limits.{greatest_quota, most_endpoints, spent}
use Rattle.sp_ledger.specs.Sound.{IsSound}
use Rattle.sp_ledger.specs.Tally.{IsSmall, tally_in}
use Rattle.std.proofs.Common.{ap, arith, refl, ◌∙◌}
use Rattle.std.proofs.lemmas.List.Elements.{All-head, All-tail}
use Rattle.std.proofs.lemmas.List.Sums.{count_by-le-length, sum_by-cons, sum_by-le, sum_by-le-sum_by}
use Rattle.std.specs.Prelude.{All, Bool, IsTrue, List, None, Option, Some, [], cond, false, filter, not, sum_by, true}
use Rattle.std.specs.Prelude.{ℕ, ◌*◌, ◌+◌, ◌==◌, ◌||◌, ◌∷◌, ◌≡◌, ◌≤◌}

-- the bytes of the copies that pass a test
abbrev size_where : (MadeCopy → Bool) → List MadeCopy → ℕ
size_where p cs = sum_by (λ (c : MadeCopy). c.size) (filter p cs)

size-cons : (p : MadeCopy → Bool) (c : MadeCopy) (cs : List MadeCopy) →
    size_where p (c ∷ cs) ≡ cond (p c) c.size 0 + size_where p cs
size-cons p c cs = one (p c)
  where
    one : (b : Bool) → sum_by (λ (d : MadeCopy). d.size) (cond b (c ∷ filter p cs) (filter p cs)) ≡ cond b c.size
        0 + size_where p cs
    one true = sum_by-cons {X = MadeCopy} (λ d. d.size) c (filter p cs)
    one false = omega arith

-- the bytes of an endpoint's spooled copies
abbrev size_in : List ClosedCopy → List MadeCopy → EndpointView → ℕ
size_in closed cs e = size_where (is_open_in closed e.number) cs

-- one endpoint's bytes more are more of the sum
sum_with : (f g : EndpointView → ℕ) (size n : ℕ) → ((e : EndpointView) → g e ≤ f e) →
    ((e : EndpointView) → (e.number == n) ≡ true → size + g e ≤ f e) → (es : List EndpointView) →
    is_there es n ≡ true → size + sum_by g es ≤ sum_by f es
sum_with f g size n least here [] is = absurd (cc)
sum_with f g size n least here (e ∷ es) is =
    let after = sum_by-cons {X = EndpointView} f e es in
    let before = sum_by-cons {X = EndpointView} g e es in
    one after before (sum_with f g size n least here es) (e.number == n) refl is
  where
    one : sum_by f (e ∷ es) ≡ f e + sum_by f es → sum_by g (e ∷ es) ≡ g e + sum_by g es →
        (is_there es n ≡ true → size + sum_by g es ≤ sum_by f es) → (b : Bool) → (e.number == n) ≡ b →
        (b || is_there es n) ≡ true → size + sum_by g (e ∷ es) ≤ sum_by f (e ∷ es)
    one after before later true same k = let more = here e same in let rest =
        sum_by-le-sum_by {X = EndpointView} g f es least in omega (arith, after, before, more, rest)
    one after before later false same k = let more = least e in let rest = later k in
        omega (arith, after, before, more, rest)

-- the spooled copies use no more than the endpoints' spooled copies together
all_in : (closed : List ClosedCopy) (es : List EndpointView) (cs : List MadeCopy) →
    All (λ c. IsTrue (is_closed closed c.number || is_there es c.endpoint)) cs →
    size_where (λ c. not (is_closed closed c.number)) cs ≤ sum_by (size_in closed cs) es
all_in closed es [] there = omega arith
all_in closed es (c ∷ cs) there =
    let rest = all_in closed es cs
    (All-tail (λ (d : MadeCopy). IsTrue (is_closed closed d.number || is_there es d.endpoint)) c cs there) in
    let size = size-cons (λ (d : MadeCopy). not (is_closed closed d.number)) c cs in
    one (is_closed closed c.number) refl
    (All-head (λ (d : MadeCopy). IsTrue (is_closed closed d.number || is_there es d.endpoint)) c cs there) size rest
  where
    least : (e : EndpointView) → size_in closed cs e ≤ size_in closed (c ∷ cs) e
    least e = let more = size-cons (is_open_in closed e.number) c cs in omega (arith, more)

    here : is_closed closed c.number ≡ false → (e : EndpointView) → (e.number == c.endpoint) ≡ true →
        c.size + size_in closed cs e ≤ size_in closed (c ∷ cs) e
    here spooled e same =
        let more = size-cons (is_open_in closed e.number) c cs in
        let is : is_open_in closed e.number c ≡ true =
        and_both (c.endpoint == e.number) _ (eqb-turned c.endpoint e.number ∙ same) (ap not spooled) in
        let added : cond (is_open_in closed e.number c) c.size 0 ≡ c.size = ap (λ b. cond b c.size 0) is in
        omega (arith, more, added)

    one : (b : Bool) → is_closed closed c.number ≡ b → (b || is_there es c.endpoint) ≡ true →
        size_where (λ d. not (is_closed closed d.number)) (c ∷ cs) ≡ cond (not (is_closed closed c.number)) c.size
        0 + size_where (λ d. not (is_closed closed d.number)) cs →
        size_where (λ d. not (is_closed closed d.number)) cs ≤ sum_by (size_in closed cs) es →
        size_where (λ d. not (is_closed closed d.number)) (c ∷ cs) ≤ sum_by (size_in closed (c ∷ cs)) es
    one true shut k size rest =
        let none : cond (not (is_closed closed c.number)) c.size 0 ≡ 0 = ap (λ b. cond (not b) c.size 0) shut in
        let more = sum_by-le-sum_by {X = EndpointView} (size_in closed cs) (size_in closed (c ∷ cs)) es least in
        omega (arith, none, size, rest, more)
    one false shut k size rest =
        let added : cond (not (is_closed closed c.number)) c.size 0 ≡ c.size = ap (λ b. cond (not b) c.size 0) shut in
        let more = sum_with (size_in closed (c ∷ cs)) (size_in closed cs) c.size c.endpoint least (here shut) es k in
        omega (arith, added, size, rest, more)

used_fits : (L : Ledger) → IsSound L → (e : Option ℕ) → used_in L.copies e ≤ most_endpoints * greatest_quota
used_fits L s (Some endpoint) = let most = s.copies.quota endpoint in omega (arith, most)
used_fits L s None =
    let all = all_in L.copies.closed L.endpoints L.copies.made s.one.open_there in
    let each = sum_by-le {X = EndpointView} (size_in L.copies.closed L.copies.made) greatest_quota L.endpoints
    (λ k e lt. s.copies.quota _) in
    let most = s.endpoints.most in
    omega (arith, all, each, most)

made_fits : (L : Ledger) → IsSound L → (e : Option ℕ) → made_count L.copies e ≤ spent
made_fits L s e =
    let many = fewer_than_next 1 L.copies.next L.copies.made s.one.numbered.next_above s.one.numbered.rise
    s.one.numbered.above s.one.numbered.below in
    let counted = count_by-le-length (is_of e) L.copies.made in
    let most = s.copies.next in
    omega (arith, many, counted, most)

pub tally_small : (L : Ledger) → IsSound L → (e : Option ℕ) → IsSmall (tally_in L.copies e)
tally_small L s e = record { made = made_fits L s e; used = used_fits L s e }
