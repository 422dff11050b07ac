-- The outcome at a place tells whether the pattern matches there, and sometimes that no later place does.
use Rattle.std.proofs.Common.{◌≡◌, ◌∙◌, ℕ, Bool, true, false, List, [], ◌∷◌, refl, sym, ap, subst}
use Rattle.std.specs.Prelude.{◌==◌, ◌&&◌, ◌||◌, if◌then◌else◌}
use Rattle.sp_pattern.specs.declared.like.Outcome.{Outcome}
use Rattle.sp_pattern.specs.declared.like.Outcome.TheVariants.{Match, NoMatch, TextEnded}
use Rattle.sp_pattern.specs.declared.item.PatternItem.{PatternItem}
use Rattle.sp_pattern.specs.declared.item.PatternItem.TheVariants.{Any, One, Exactly}
use Rattle.sp_pattern.specs.Pattern.{at_some_place, matches}
use Rattle.sp_pattern.specs.Wild.{first_outcome, or_later, outcome}

-- what an outcome says of a test at this place and at later ones
abbrev pub Tells : Outcome → (List ℕ → Bool) → List ℕ → Type 0
Tells Match test cs = test cs ≡ true
Tells NoMatch test cs = test cs ≡ false
Tells TextEnded test cs = (test cs ≡ false) × (at_some_place test cs ≡ false)

neither : (a b : Bool) → (a || b) ≡ false → (a ≡ false) × (b ≡ false)
neither true b h = cc
neither false b h = (refl, h)

-- later places of a test that itself looks at later places
later_places : (test : List ℕ → Bool) (cs : List ℕ) → at_some_place test cs ≡ false → at_some_place (at_some_place test) cs ≡ false
later_places test [] h = h
later_places test (c ∷ cs) h =
    let both = neither (test (c ∷ cs)) (at_some_place test cs) h in
    ap (λ b. b || at_some_place (at_some_place test) cs) h ∙ later_places test cs both.1

-- a place and the later ones
joined : (a b : Outcome) (test : List ℕ → Bool) (c : ℕ) (cs : List ℕ) → Tells a test (c ∷ cs) → Tells b (at_some_place test) cs → Tells (or_later a b) (at_some_place test) (c ∷ cs)
joined Match b test c cs here later = ap (λ t. t || at_some_place test cs) here
joined TextEnded b test c cs here later = (here.1, later_places test (c ∷ cs) here.1)
joined NoMatch Match test c cs here later = ap (λ t. t || at_some_place test cs) here ∙ later
joined NoMatch NoMatch test c cs here later = ap (λ t. t || at_some_place test cs) here ∙ later
joined NoMatch TextEnded test c cs here later =
    let none : at_some_place test (c ∷ cs) ≡ false = ap (λ t. t || at_some_place test cs) here ∙ later.0 in
    (none, later_places test (c ∷ cs) none)

alone : (a : Outcome) (test : List ℕ → Bool) → Tells a test [] → Tells (or_later a TextEnded) (at_some_place test) []
alone Match test here = here
alone TextEnded test here = (here.1, here.1)
alone NoMatch test here = (here, here)

some_place_tells : (try : List ℕ → Outcome) (test : List ℕ → Bool) (cs : List ℕ) → ((ds : List ℕ) → Tells (try ds) test ds) → Tells (first_outcome try cs) (at_some_place test) cs
some_place_tells try test [] tells = alone (try []) test (tells [])
some_place_tells try test (c ∷ cs) tells = joined (try (c ∷ cs)) (first_outcome try cs) test c cs (tells (c ∷ cs)) (some_place_tells try test cs tells)

-- a test that asks for one character more and then for another test
shifted : (inner test : List ℕ → Bool) → test [] ≡ false → ((d : ℕ) (ds : List ℕ) → inner ds ≡ false → test (d ∷ ds) ≡ false) → (c : ℕ) (cs : List ℕ) → at_some_place inner cs ≡ false → at_some_place test (c ∷ cs) ≡ false
shifted inner test none one c [] h = ap (λ b. b || test []) (one c [] h) ∙ none
shifted inner test none one c (d ∷ cs) h =
    let both = neither (inner (d ∷ cs)) (at_some_place inner cs) h in
    ap (λ b. b || at_some_place test (d ∷ cs)) (one c (d ∷ cs) both.0) ∙ shifted inner test none one d cs both.1

one_tells : (o : Outcome) (items : List PatternItem) (c : ℕ) (cs : List ℕ) → Tells o (matches items) cs → Tells o (matches (One ∷ items)) (c ∷ cs)
one_tells Match items c cs h = h
one_tells NoMatch items c cs h = h
one_tells TextEnded items c cs h = (h.0, shifted (matches items) (matches (One ∷ items)) refl (λ d ds g. g) c cs h.1)

fails_too : (e d : ℕ) (b : Bool) → b ≡ false → ((e == d) && b) ≡ false
fails_too e d b h = go (e == d)
  where
    go : (t : Bool) → (t && b) ≡ false
    go true = h
    go false = refl

exactly_tells : (t : Bool) (o : Outcome) (e : ℕ) (items : List PatternItem) (c : ℕ) (cs : List ℕ) → (e == c) ≡ t → Tells o (matches items) cs → Tells (if t then o else NoMatch) (matches (Exactly e ∷ items)) (c ∷ cs)
exactly_tells true Match e items c cs same h = ap (λ t. t && matches items cs) same ∙ h
exactly_tells true NoMatch e items c cs same h = ap (λ t. t && matches items cs) same ∙ h
exactly_tells true TextEnded e items c cs same h =
    (ap (λ t. t && matches items cs) same ∙ h.0, shifted (matches items) (matches (Exactly e ∷ items)) refl (λ d ds g. fails_too e d (matches items ds) g) c cs h.1)
exactly_tells false o e items c cs same h = ap (λ t. t && matches items cs) same

tells : (items : List PatternItem) (cs : List ℕ) → Tells (outcome items cs) (matches items) cs
tells [] [] = refl
tells [] (c ∷ cs) = refl
tells (Any ∷ items) cs = some_place_tells (outcome items) (matches items) cs (tells items)
tells (One ∷ items) [] = (refl, refl)
tells (One ∷ items) (c ∷ cs) = one_tells (outcome items cs) items c cs (tells items cs)
tells (Exactly e ∷ items) [] = (refl, refl)
tells (Exactly e ∷ items) (c ∷ cs) = exactly_tells (e == c) (outcome items cs) e items c cs refl (tells items cs)

told : (o : Outcome) (items : List PatternItem) (cs : List ℕ) → o ≡ outcome items cs → Tells o (matches items) cs
told o items cs e = subst (λ p. Tells p (matches items) cs) (sym e) (tells items cs)

pub match_is : (items : List PatternItem) (cs : List ℕ) → Match ≡ outcome items cs → matches items cs ≡ true
match_is items cs e = told Match items cs e

pub no_match_is : (items : List PatternItem) (cs : List ℕ) → NoMatch ≡ outcome items cs → matches items cs ≡ false
no_match_is items cs e = told NoMatch items cs e

pub ended_is : (items : List PatternItem) (cs : List ℕ) → TextEnded ≡ outcome items cs → matches items cs ≡ false
ended_is items cs e = (told TextEnded items cs e).0

-- an outcome other than NoMatch is the first one
pub match_here : (try : List ℕ → Outcome) (cs : List ℕ) → Match ≡ try cs → Match ≡ first_outcome try cs
match_here try [] h = ap (λ o. or_later o TextEnded) h
match_here try (c ∷ cs) h = ap (λ o. or_later o (first_outcome try cs)) h

pub ended_here : (try : List ℕ → Outcome) (cs : List ℕ) → TextEnded ≡ try cs → TextEnded ≡ first_outcome try cs
ended_here try [] h = ap (λ o. or_later o TextEnded) h
ended_here try (c ∷ cs) h = ap (λ o. or_later o (first_outcome try cs)) h
