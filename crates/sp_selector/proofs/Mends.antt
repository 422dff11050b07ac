-- What the last tokens of a list become does not matter to what was derived before them.
use Rattle.std.proofs.Common.{◌≡◌, ◌≤◌, ◌++◌, ℕ, Bool, false, List, [], ◌∷◌, length, refl, ap, arith}
use Rattle.sp_selector.specs.declared.token.Mark.TheVariants as mark
use Rattle.sp_selector.specs.declared.token.Token.{Token}
use Rattle.sp_selector.specs.declared.token.Token.TheVariants as token
use Rattle.sp_selector.specs.declared.tree.Operator.TheVariants as operator
use Rattle.sp_selector.specs.Grammar.{Level, Derives, Texts}
use Rattle.sp_selector.specs.Grammar as rule
use Rattle.sp_selector.specs.Scan.{is_in, counted}
use Rattle.sp_selector.specs.Tree.{Expression}
use Rattle.sp_selector.proofs.Spelled.{Plain, plain_count, Spelled, plain_spelled, open_spelled}

-- the last so many tokens are others, which are not counted
pub data Mends : ℕ → List Token → List Token → Type 0 where
  here : {ts us : List Token} → Plain us → Mends (length ts) ts us
  behind_in : {ts us : List Token} → Plain us → Mends (length ts) (token.Mark mark.In ∷ ts) (token.Mark mark.In ∷ token.Mark mark.Open ∷ us)
  kept : {k : ℕ} {t : Token} {ts us : List Token} → Mends k ts us → Mends k (t ∷ ts) (t ∷ us)

pub mends_count : {k : ℕ} {ts us : List Token} → Mends k ts us → (b : Bool) → counted b us ≤ counted b ts
mends_count (here p) b = omega (arith, plain_count p b)
mends_count (behind_in p) b = omega (arith, plain_count p false)
mends_count (kept {t = t} m) b = omega (arith, mends_count m (is_in t))

pub mends_front : {k : ℕ} {ts us : List Token} → Mends k ts us → (before after more : List Token) × (ts ≡ before ++ after) × (us ≡ before ++ more) × (length after ≡ k) × Spelled more
mends_front (here {ts = ts} {us = us} p) = ([], ts, us, refl, refl, refl, plain_spelled p)
mends_front (behind_in {ts = ts} {us = us} p) = (token.Mark mark.In ∷ [], ts, token.Mark mark.Open ∷ us, refl, refl, refl, open_spelled (plain_spelled p))
mends_front (kept {t = t} m) =
    let f = mends_front m in
    (t ∷ f.0, f.1, f.2, ap (λ ts. t ∷ ts) f.3, ap (λ us. t ∷ us) f.4, f.5, f.6)

texts_before : {ts rest : List Token} {texts : List (List ℕ)} → Texts ts texts rest → (k : ℕ) (new : List Token) → Mends k rest new → (us : List Token) × Mends k ts us × Texts us texts new
texts_before (rule.last {t = t}) k new m = (token.Text t ∷ token.Mark mark.Close ∷ new, kept (kept m), rule.last)
texts_before (rule.more {t = t} d) k new m =
    let f = texts_before d k new m in
    (token.Text t ∷ token.Mark mark.Comma ∷ f.0, kept (kept f.1), rule.more f.2)

-- what was derived stays so before other tokens
pub derived_before : {level : Level} {ts : List Token} {e : Expression} {rest : List Token} → Derives level ts e rest → (k : ℕ) (new : List Token) → Mends k rest new → (us : List Token) × Mends k ts us × Derives level us e new
derived_before (rule.one d) k new m = let f = derived_before d k new m in (f.0, f.1, rule.one f.2)
derived_before (rule.another {op = op} j d g) k new m =
    let g' = derived_before g k new m in
    let f = derived_before d k (token.Infix op ∷ g'.0) (kept g'.1) in
    (f.0, f.1, rule.another j f.2 g'.2)
derived_before (rule.negated d) k new m = let f = derived_before d k new m in (token.Mark mark.Not ∷ f.0, kept f.1, rule.negated f.2)
derived_before (rule.condition d) k new m = let f = derived_before d k new m in (f.0, f.1, rule.condition f.2)
derived_before (rule.sum d) k new m = let f = derived_before d k new m in (f.0, f.1, rule.sum f.2)
derived_before (rule.compares {op = op} j d g) k new m =
    let g' = derived_before g k new m in
    let f = derived_before d k (token.Infix op ∷ g'.0) (kept g'.1) in
    (f.0, f.1, rule.compares j f.2 g'.2)
derived_before (rule.tested d g) k new m =
    let g' = derived_before g k new m in
    let f = derived_before d k g'.0 g'.1 in
    (f.0, f.1, rule.tested f.2 g'.2)
derived_before (rule.not_tested d g) k new m =
    let g' = derived_before g k new m in
    let f = derived_before d k (token.Mark mark.Not ∷ g'.0) (kept g'.1) in
    (f.0, f.1, rule.not_tested f.2 g'.2)
derived_before (rule.is_null d) k new m =
    let f = derived_before d k (token.Mark mark.Is ∷ token.Mark mark.Null ∷ new) (kept (kept m)) in
    (f.0, f.1, rule.is_null f.2)
derived_before (rule.is_not_null d) k new m =
    let f = derived_before d k (token.Mark mark.Is ∷ token.Mark mark.Not ∷ token.Mark mark.Null ∷ new) (kept (kept (kept m))) in
    (f.0, f.1, rule.is_not_null f.2)
derived_before (rule.between d g) k new m =
    let g' = derived_before g k new m in
    let f = derived_before d k (token.Infix operator.And ∷ g'.0) (kept g'.1) in
    (token.Mark mark.Between ∷ f.0, kept f.1, rule.between f.2 g'.2)
derived_before (rule.among d) k new m =
    let f = texts_before d k new m in
    (token.Mark mark.In ∷ token.Mark mark.Open ∷ f.0, kept (kept f.1), rule.among f.2)
derived_before (rule.like {p = p}) k new m = (token.Mark mark.Like ∷ token.Text p ∷ new, kept (kept m), rule.like)
derived_before (rule.like_escape {p = p} {t = t} c) k new m =
    (token.Mark mark.Like ∷ token.Text p ∷ token.Mark mark.Escape ∷ token.Text t ∷ new, kept (kept (kept (kept m))), rule.like_escape c)
derived_before (rule.plus d) k new m = let f = derived_before d k new m in (token.Infix operator.Add ∷ f.0, kept f.1, rule.plus f.2)
derived_before (rule.minus d) k new m = let f = derived_before d k new m in (token.Infix operator.Subtract ∷ f.0, kept f.1, rule.minus f.2)
derived_before (rule.primary d) k new m = let f = derived_before d k new m in (f.0, f.1, rule.primary f.2)
derived_before (rule.number {z = z}) k new m = (token.Number z ∷ new, kept m, rule.number)
derived_before (rule.text {t = t}) k new m = (token.Text t ∷ new, kept m, rule.text)
derived_before rule.yes k new m = (token.Mark mark.True ∷ new, kept m, rule.yes)
derived_before rule.no k new m = (token.Mark mark.False ∷ new, kept m, rule.no)
derived_before (rule.name {t = t}) k new m = (token.Name t ∷ new, kept m, rule.name)
derived_before (rule.parenthesis d) k new m =
    let f = derived_before d k (token.Mark mark.Close ∷ new) (kept m) in
    (token.Mark mark.Open ∷ f.0, kept f.1, rule.parenthesis f.2)
