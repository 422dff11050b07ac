-- Two readings whose tokens are the same for a while do the same so long.
use Rattle.std.proofs.Common.{◌≡◌, ◌⊎◌, ◌<◌, ◌≤◌, ℕ, suc, List, [], ◌∷◌, length, Result, Ok, Err, refl, ap, sym, subst, inl, inr, arith}
use Rattle.std.proofs.lemmas.Bool.{cases_lt}
use Rattle.sp_selector.specs.declared.token.Mark.TheVariants as mark
use Rattle.sp_selector.specs.declared.token.Token.{Token}
use Rattle.sp_selector.specs.declared.token.Token.TheVariants as token
use Rattle.sp_selector.specs.declared.tree.Operator.TheVariants as operator
use Rattle.sp_selector.specs.Parser.{◌>>=◌, Reading, after_and, after_close, after_open, after_null}

-- the tokens are the same up to the one from which on fewer than j are left
pub data Near (j : ℕ) : List Token → List Token → Type 0 where
  same : {t : Token} {ts us : List Token} → Near j ts us → Near j (t ∷ ts) (t ∷ us)
  past : {ts us : List Token} → length ts < j → Near j ts us

abbrev pub IsErr : {A : Type 0} → Result A ℕ → Type 0
IsErr r = (k : ℕ) × (r ≡ Err k)

-- of n tokens: what stops while at least j are left stops there too, and what is read up to there is read there too
abbrev pub Follows : {A : Type 0} → ℕ → ℕ → Reading A → Reading A → Type 0
Follows j n (Err k) r = (k ≤ n) × (j ≤ k → IsErr r)
Follows j n (Ok x) r = (length x.1 ≤ n) × (j ≤ length x.1 → (rest : List Token) × (r ≡ Ok (x.0, rest)) × Near j x.1 rest)

pub follows_more : {A : Type 0} (j m n : ℕ) (r q : Reading A) → m ≤ n → Follows j m r q → Follows j n r q
follows_more j m n (Err k) q less f = (omega (arith, f.0), f.1)
follows_more j m n (Ok x) q less f = (omega (arith, f.0), f.1)

-- past the place nothing is asked
pub follows_past : {A : Type 0} (j m n : ℕ) (r q p : Reading A) → m < j → m ≤ n → Follows j m r q → Follows j n r p
follows_past j m n (Err k) q p beyond less f = (omega (arith, f.0), λ some. absurd (omega (arith, f.0)))
follows_past j m n (Ok x) q p beyond less f = (omega (arith, f.0), λ some. absurd (omega (arith, f.0)))

pub follows_ok : {A : Type 0} (j n : ℕ) (x : A) (ts us : List Token) → length ts ≤ n → Near j ts us → Follows {A = A} j n (Ok (x, ts)) (Ok (x, us))
follows_ok j n x ts us less near = (less, λ some. (us, refl, near))

pub follows_err : {A : Type 0} (j n k m : ℕ) → k ≤ n → Follows {A = A} j n (Err k) (Err m)
follows_err j n k m less = (less, λ some. (m, refl))

bind_err : {A B : Type 0} (q : Result A ℕ) (g : A → Result B ℕ) → IsErr q → IsErr (q >>= g)
bind_err q g e = (e.0, ap (λ r. r >>= g) e.1)

pub follows_bind : {A B : Type 0} (j n : ℕ) (r q : Reading A) (f g : A × List Token → Reading B) → Follows j n r q → ((x : A) (rest others : List Token) → r ≡ Ok (x, rest) → length rest ≤ n → Near j rest others → Follows j (length rest) (f (x, rest)) (g (x, others))) → Follows j n (r >>= f) (q >>= g)
follows_bind j n (Err k) q f g h go = (h.0, λ some. bind_err q g (h.1 some))
follows_bind j n (Ok x) q f g h go = at_place (cases_lt (length x.1) j)
  where
    at_place : (length x.1 < j) ⊎ (j ≤ length x.1) → Follows j n (f x) (q >>= g)
    at_place (inl less) = follows_past j (length x.1) n (f x) (g (x.0, [])) (q >>= g) less h.0 (go x.0 x.1 [] refl h.0 (past less))
    at_place (inr some) =
        let e = h.1 some in
        subst (λ r. Follows j n (f x) (r >>= g)) (sym e.1) (follows_more j (length x.1) n (f x) (g (x.0, e.0)) h.0 (go x.0 x.1 e.0 refl h.0 e.2))

-- it is enough to look at the first token
pub by_head : {A : Type 0} (j most : ℕ) (p q : List Token → Reading A) → ((t : Token) (ts us : List Token) → length ts < most → Near j ts us → Follows j (suc (length ts)) (p (t ∷ ts)) (q (t ∷ us))) → Follows j 0 (p []) (q []) → {ts us : List Token} → length ts ≤ most → Near j ts us → Follows j (length ts) (p ts) (q us)
by_head j most p q head none few (same {t = t} {ts = ts} {us = us} near) = head t ts us (omega arith) near
by_head j most p q head none few (past {ts = []} {us = us} less) = follows_past j 0 0 (p []) (q []) (q us) less (omega arith) none
by_head j most p q head none few (past {ts = t ∷ ts} {us = us} less) =
    follows_past j (suc (length ts)) (suc (length ts)) (p (t ∷ ts)) (q (t ∷ ts)) (q us) less (omega arith) (head t ts ts (omega arith) (past (omega arith)))

-- one token of a kind is wanted
abbrev pub Wants : (List Token → Result (List Token) ℕ) → Type 0
Wants after = (after [] ≡ Err 0) × ((t : Token) → ((ts : List Token) → after (t ∷ ts) ≡ Ok ts) ⊎ ((ts : List Token) → after (t ∷ ts) ≡ Err (suc (length ts))))

pub wants_and : Wants after_and
wants_and = (refl, by_token)
  where
    by_token : (t : Token) → ((ts : List Token) → after_and (t ∷ ts) ≡ Ok ts) ⊎ ((ts : List Token) → after_and (t ∷ ts) ≡ Err (suc (length ts)))
    by_token (token.Infix operator.And) = inl (λ ts. refl)
    by_token t = inr (λ ts. refl)

pub wants_close : Wants after_close
wants_close = (refl, by_token)
  where
    by_token : (t : Token) → ((ts : List Token) → after_close (t ∷ ts) ≡ Ok ts) ⊎ ((ts : List Token) → after_close (t ∷ ts) ≡ Err (suc (length ts)))
    by_token (token.Mark mark.Close) = inl (λ ts. refl)
    by_token t = inr (λ ts. refl)

pub wants_open : Wants after_open
wants_open = (refl, by_token)
  where
    by_token : (t : Token) → ((ts : List Token) → after_open (t ∷ ts) ≡ Ok ts) ⊎ ((ts : List Token) → after_open (t ∷ ts) ≡ Err (suc (length ts)))
    by_token (token.Mark mark.Open) = inl (λ ts. refl)
    by_token t = inr (λ ts. refl)

pub wants_null : Wants after_null
wants_null = (refl, by_token)
  where
    by_token : (t : Token) → ((ts : List Token) → after_null (t ∷ ts) ≡ Ok ts) ⊎ ((ts : List Token) → after_null (t ∷ ts) ≡ Err (suc (length ts)))
    by_token (token.Mark mark.Null) = inl (λ ts. refl)
    by_token t = inr (λ ts. refl)

module _ {A : Type 0} (j most : ℕ) (after : List Token → Result (List Token) ℕ) (wants : Wants after) (f g : List Token → Reading A) (go : (rest others : List Token) → length rest < most → Near j rest others → Follows j (length rest) (f rest) (g others)) where
  pub after_head : (t : Token) (ts us : List Token) → length ts < most → Near j ts us → Follows j (suc (length ts)) (after (t ∷ ts) >>= f) (after (t ∷ us) >>= g)
  after_head t ts us few near = by_token (wants.1 t)
    where
      by_token : ((rs : List Token) → after (t ∷ rs) ≡ Ok rs) ⊎ ((rs : List Token) → after (t ∷ rs) ≡ Err (suc (length rs))) → Follows j (suc (length ts)) (after (t ∷ ts) >>= f) (after (t ∷ us) >>= g)
      by_token (inl is) =
          subst (λ r. Follows j (suc (length ts)) (r >>= f) (after (t ∷ us) >>= g)) (sym (is ts))
          (subst (λ r. Follows j (suc (length ts)) (f ts) (r >>= g)) (sym (is us)) (follows_more j (length ts) (suc (length ts)) (f ts) (g us) (omega arith) (go ts us few near)))
      by_token (inr is) =
          subst (λ r. Follows j (suc (length ts)) (r >>= f) (after (t ∷ us) >>= g)) (sym (is ts))
          ((omega arith, λ some. bind_err (after (t ∷ us)) g (suc (length us), is us)))

  pub follows_after : {ts us : List Token} → length ts ≤ most → Near j ts us → Follows j (length ts) (after ts >>= f) (after us >>= g)
  follows_after few near = by_head j most (λ ts. after ts >>= f) (λ us. after us >>= g) after_head none few near
    where
      none : Follows j 0 (after [] >>= f) (after [] >>= g)
      none = subst (λ r. Follows j 0 (r >>= f) (r >>= g)) (sym wants.0) (follows_err {A = A} j 0 0 0 (omega arith))
