-- What stands open where reading stops can be completed, and no token of that is counted.
use Rattle.std.proofs.Common.{◌≡◌, ℕ, zero, suc, true, List, [], ◌∷◌, length, Some, None, Result, Ok, Err, refl, sym, subst}
use Rattle.std.specs.Str.{chars}
use Rattle.sp_selector.specs.declared.parse.Chain.{Chain}
use Rattle.sp_selector.specs.declared.parse.Chain.TheVariants.{Disjunction, Conjunction, Sum, Product}
use Rattle.sp_selector.specs.declared.token.Mark.{Mark}
use Rattle.sp_selector.specs.declared.token.Mark.TheVariants as mark
use Rattle.sp_selector.specs.declared.token.Token.{Token}
use Rattle.sp_selector.specs.declared.token.Token.TheVariants as token
use Rattle.sp_selector.specs.declared.tree.Operator.{Operator}
use Rattle.sp_selector.specs.declared.tree.Operator.TheVariants as operator
use Rattle.sp_selector.specs.declared.tree.Sign.TheVariants.{Plus, Minus}
use Rattle.sp_selector.specs.Grammar.{Level, Chained, Negation, Condition, Test, Factor, Primary, Derives, Texts, operand_of, joins, is_comparison}
use Rattle.sp_pattern.specs.Pattern.{pattern_of}
use Rattle.sp_selector.specs.Grammar as rule
use Rattle.sp_selector.specs.Parser.{◌>>=◌, Reading, Goal, Whole, Chain_after, Condition_after, after_and, after_close, after_open, after_null, null_test, texts_of, only_char, escape_of, chain_step, negation_step, comparison_step, condition_step, between_step, in_step, like_step, test_step, factor_step, parenthesis_step, mark_step, primary_step, step, reads}
use Rattle.sp_selector.specs.Tree.{Expression}
use Rattle.sp_selector.specs.Tree as tree
use Rattle.sp_selector.proofs.Mends.{Mends, here, behind_in, kept, derived_before}
use Rattle.sp_selector.proofs.Readings.{chosen, on_infix_cases, on_mark_cases, on_text_cases}
use Rattle.sp_selector.proofs.Spelled.{Plain, an_and, a_like, a_null, a_true, a_close, an_empty, a_point}
use Rattle.sp_selector.proofs.Sound.{IsSound, and_was, open_was, reads_sound}

-- a reading that stopped did so at once or after a part that was read
pub bind_bad : {A B P : Type 0} (r : Result A ℕ) (f : A → Result B ℕ) (k : ℕ) → (r >>= f) ≡ Err k → (r ≡ Err k → P) → ((x : A) → r ≡ Ok x → f x ≡ Err k → P) → P
bind_bad (Ok x) f k h bad good = good x refl h
bind_bad (Err n) f k h bad good = bad (cc)

abbrev IsBad : Reading Expression → ℕ → Type 0
IsBad r k = r ≡ Err k

err_same : (m n : ℕ) → IsBad (Err m) n → m ≡ n
err_same m n h = cc

-- with other tokens in the place of the last ones, they are those of a tree of the level
abbrev pub Mended : Level → ℕ → List Token → Type 0
Mended level k ts = (rest : List Token) → Plain rest → (us : List Token) × (e : Expression) × Mends k ts us × Derives level us e rest

abbrev pub SaysBad : Goal → List Token → ℕ → Type 0
SaysBad (Whole level) ts k = Mended level k ts
SaysBad (Chain_after chain l) ts k = (before : List Token) → Derives (Chained chain) before l ts → Mended (Chained chain) k before
SaysBad (Condition_after l) ts k = (before : List Token) → Derives (Chained Sum) before l ts → Mended Condition k before

abbrev pub IsMended : (Goal → List Token → Reading Expression) → Type 0
IsMended go = (goal : Goal) (ts : List Token) (k : ℕ) → go goal ts ≡ Err k → SaysBad goal ts k

-- the shortest texts of the levels
abbrev Begun : Level → List Token → Type 0
Begun level rest = (us : List Token) × (e : Expression) × Plain us × Derives level us e rest

begun : (level : Level) (rest : List Token) → Plain rest → Begun level rest
begun Primary rest plain = (token.Mark mark.True ∷ rest, tree.Truth true, a_true plain, rule.yes)
begun Factor rest plain = (token.Mark mark.True ∷ rest, tree.Truth true, a_true plain, rule.primary rule.yes)
begun (Chained Product) rest plain = (token.Mark mark.True ∷ rest, tree.Truth true, a_true plain, rule.one (rule.primary rule.yes))
begun (Chained Sum) rest plain = (token.Mark mark.True ∷ rest, tree.Truth true, a_true plain, rule.one (rule.one (rule.primary rule.yes)))
begun Condition rest plain = (token.Mark mark.True ∷ rest, tree.Truth true, a_true plain, rule.sum (rule.one (rule.one (rule.primary rule.yes))))
begun Negation rest plain = (token.Mark mark.True ∷ rest, tree.Truth true, a_true plain, rule.condition (rule.sum (rule.one (rule.one (rule.primary rule.yes)))))
begun (Chained Conjunction) rest plain = (token.Mark mark.True ∷ rest, tree.Truth true, a_true plain, rule.one (rule.condition (rule.sum (rule.one (rule.one (rule.primary rule.yes))))))
begun (Chained Disjunction) rest plain = (token.Mark mark.True ∷ rest, tree.Truth true, a_true plain, rule.one (rule.one (rule.condition (rule.sum (rule.one (rule.one (rule.primary rule.yes)))))))
begun (Test l) rest plain = (token.Mark mark.Like ∷ token.Text [] ∷ rest, tree.Like l (pattern_of None []), a_like (an_empty plain), rule.like)

-- where nothing was read, all is replaced
at_once : (level : Level) (ts : List Token) (k : ℕ) → IsBad (Err (length ts)) k → Mended level k ts
at_once level ts k h rest plain =
    let b = begun level rest plain in
    (b.0, b.1, subst (λ n. Mends n ts b.0) (err_same (length ts) k h) (here b.2), b.3)

-- tokens in the place of all of these
replaced : (ts us : List Token) (k : ℕ) → length ts ≡ k → Plain us → Mends k ts us
replaced ts us k same plain = subst (λ n. Mends n ts us) same (here plain)

-- a sum of one token
true_sum : (rest : List Token) → Derives (Chained Sum) (token.Mark mark.True ∷ rest) (tree.Truth true) rest
true_sum rest = rule.one (rule.one (rule.primary rule.yes))

-- where a token was wanted
and_bad : (ts : List Token) (k : ℕ) → after_and ts ≡ Err k → length ts ≡ k
and_bad (token.Infix operator.And ∷ ts) k h = cc
and_bad ts k h = cc

close_bad : (ts : List Token) (k : ℕ) → after_close ts ≡ Err k → length ts ≡ k
close_bad (token.Mark mark.Close ∷ ts) k h = cc
close_bad ts k h = cc

open_bad : (ts : List Token) (k : ℕ) → after_open ts ≡ Err k → length ts ≡ k
open_bad (token.Mark mark.Open ∷ ts) k h = cc
open_bad ts k h = cc

null_bad : (ts : List Token) (k : ℕ) → after_null ts ≡ Err k → length ts ≡ k
null_bad (token.Mark mark.Null ∷ ts) k h = cc
null_bad ts k h = cc

-- texts, and the escape character
texts_mended : (ts : List Token) (k : ℕ) → texts_of ts ≡ Err k → (rest : List Token) → Plain rest → (us : List Token) × (texts : List (List ℕ)) × Mends k ts us × Texts us texts rest
texts_mended (token.Text t ∷ token.Mark mark.Close ∷ ts) k h rest plain = cc
texts_mended (token.Text t ∷ token.Mark mark.Comma ∷ ts) k h rest plain =
    bind_bad (texts_of ts) (λ x. Ok (t ∷ x.0, x.1)) k h
    (λ g. let m = texts_mended ts k g rest plain in (token.Text t ∷ token.Mark mark.Comma ∷ m.0, t ∷ m.1, kept (kept m.2), rule.more m.3))
    (λ x g e. cc)
texts_mended (token.Text t ∷ ts) k h rest plain =
    (token.Text t ∷ token.Mark mark.Close ∷ rest, t ∷ [], kept (replaced ts (token.Mark mark.Close ∷ rest) k (cc) (a_close plain)), rule.last)
texts_mended ts k h rest plain =
    (token.Text [] ∷ token.Mark mark.Close ∷ rest, [] ∷ [], replaced ts (token.Text [] ∷ token.Mark mark.Close ∷ rest) k (cc) (an_empty (a_close plain)), rule.last)

only_char_bad : (cs : List ℕ) (left k : ℕ) → only_char cs left ≡ Err k → left ≡ k
only_char_bad [] left k h = cc
only_char_bad (c ∷ []) left k h = cc
only_char_bad (c ∷ d ∷ cs) left k h = cc

one_char : chars (33 ∷ []) ≡ 33 ∷ []
unfolding chars
one_char = refl

escape_mended : (l : Expression) (p : List ℕ) (ts : List Token) (k : ℕ) → escape_of ts ≡ Err k → Mended (Test l) k (token.Mark mark.Like ∷ token.Text p ∷ ts)
escape_mended l p (token.Mark mark.Escape ∷ token.Text t ∷ ts) k h rest plain =
    bind_bad (only_char (chars t) (length (token.Text t ∷ ts))) (λ c. Ok (Some c, ts)) k h
    (λ g. (
      token.Mark mark.Like ∷ token.Text p ∷ token.Mark mark.Escape ∷ token.Text (33 ∷ []) ∷ rest,
      tree.Like l (pattern_of (Some 33) p),
      kept (kept (kept (replaced (token.Text t ∷ ts) (token.Text (33 ∷ []) ∷ rest) k (only_char_bad (chars t) (length (token.Text t ∷ ts)) k g) (a_point plain)))),
      rule.like_escape one_char,
    ))
    (λ c g e. cc)
escape_mended l p (token.Mark mark.Escape ∷ ts) k h rest plain = (
  token.Mark mark.Like ∷ token.Text p ∷ token.Mark mark.Escape ∷ token.Text (33 ∷ []) ∷ rest,
  tree.Like l (pattern_of (Some 33) p),
  kept (kept (kept (replaced ts (token.Text (33 ∷ []) ∷ rest) k (cc) (a_point plain)))),
  rule.like_escape one_char,
)
escape_mended l p ts k h rest plain = cc

-- each level, where what stands inside is completed
module _ (go : Goal → List Token → Reading Expression) (s : IsSound go) (m : IsMended go) where
  chain_mended : (chain : Chain) (l : Expression) (before ts : List Token) → Derives (Chained chain) before l ts → (k : ℕ) (op : Operator) (more : List Token) → ts ≡ token.Infix op ∷ more → chain_step go chain l ts op more ≡ Err k → Mended (Chained chain) k before
  chain_mended chain l before ts d k op more at h =
      chosen (joins chain op) _ _ _ h
      (λ j g. let d' = subst (λ rs. Derives (Chained chain) before l rs) at d in
      bind_bad (go (Whole (operand_of chain)) more) _ k g
      (λ g. λ rest plain.
      let f = m (Whole (operand_of chain)) more k g rest plain in
      let b = derived_before d' k (token.Infix op ∷ f.0) (kept f.2) in
      (b.0, tree.Binary op l f.1, b.1, rule.another j b.2 f.3))
      (λ x read g. m (Chain_after chain (tree.Binary op l x.0)) x.1 k g before (rule.another j d' (s (Whole (operand_of chain)) more x.0 x.1 read))))
      (λ j g. cc)

  negation_mended : (ts : List Token) (k : ℕ) (mk : Mark) (more : List Token) → ts ≡ token.Mark mk ∷ more → negation_step go ts mk more ≡ Err k → Mended Negation k ts
  negation_mended ts k mark.Not more at h =
      subst (λ rs. Mended Negation k rs) (sym at)
      (bind_bad (go (Whole Negation) more) _ k h
      (λ g. λ rest plain. let f = m (Whole Negation) more k g rest plain in (token.Mark mark.Not ∷ f.0, tree.Not f.1, kept f.2, rule.negated f.3))
      (λ x read g. cc))
  negation_mended ts k mk more at h = λ rest plain. let f = m (Whole Condition) ts k h rest plain in (f.0, f.1, f.2, rule.condition f.3)

  comparison_mended : (l : Expression) (before ts : List Token) → Derives (Chained Sum) before l ts → (k : ℕ) (op : Operator) (more : List Token) → ts ≡ token.Infix op ∷ more → comparison_step go l ts op more ≡ Err k → Mended Condition k before
  comparison_mended l before ts d k op more at h =
      chosen (is_comparison op) _ _ _ h
      (λ j g. bind_bad (go (Whole (Chained Sum)) more) _ k g
      (λ g. λ rest plain.
      let f = m (Whole (Chained Sum)) more k g rest plain in
      let b = derived_before (subst (λ rs. Derives (Chained Sum) before l rs) at d) k (token.Infix op ∷ f.0) (kept f.2) in
      (b.0, tree.Binary op l f.1, b.1, rule.compares j b.2 f.3))
      (λ x read g. cc))
      (λ j g. cc)

  null_mended : (l : Expression) (before more : List Token) → Derives (Chained Sum) before l (token.Mark mark.Is ∷ more) → (k : ℕ) → null_test l more ≡ Err k → Mended Condition k before
  null_mended l before (token.Mark mark.Not ∷ more) d k h =
      bind_bad (after_null more) _ k h
      (λ g. λ rest plain.
      let b = derived_before d k (token.Mark mark.Is ∷ token.Mark mark.Not ∷ token.Mark mark.Null ∷ rest) (kept (kept (replaced more (token.Mark mark.Null ∷ rest) k (null_bad more k g) (a_null plain)))) in
      (b.0, tree.Not (tree.IsNull l), b.1, rule.is_not_null b.2))
      (λ x read g. cc)
  null_mended l before more d k h =
      bind_bad (after_null more) (λ rs. Ok (tree.IsNull l, rs)) k h
      (λ g. λ rest plain.
      let b = derived_before d k (token.Mark mark.Is ∷ token.Mark mark.Null ∷ rest) (kept (replaced more (token.Mark mark.Null ∷ rest) k (null_bad more k g) (a_null plain))) in
      (b.0, tree.IsNull l, b.1, rule.is_null b.2))
      (λ x read g. cc)

  -- a test behind its operand
  tested : (l : Expression) (before ts : List Token) → Derives (Chained Sum) before l ts → (k : ℕ) → go (Whole (Test l)) ts ≡ Err k → Mended Condition k before
  tested l before ts d k h = λ rest plain.
      let f = m (Whole (Test l)) ts k h rest plain in
      let b = derived_before d k f.0 f.2 in
      (b.0, f.1, b.1, rule.tested b.2 f.3)

  condition_mended : (l : Expression) (before ts : List Token) → Derives (Chained Sum) before l ts → (k : ℕ) (mk : Mark) (more : List Token) → ts ≡ token.Mark mk ∷ more → condition_step go l ts mk more ≡ Err k → Mended Condition k before
  condition_mended l before ts d k mark.Not more at h =
      bind_bad (go (Whole (Test l)) more) _ k h
      (λ g. λ rest plain.
      let f = m (Whole (Test l)) more k g rest plain in
      let b = derived_before (subst (λ rs. Derives (Chained Sum) before l rs) at d) k (token.Mark mark.Not ∷ f.0) (kept f.2) in
      (b.0, tree.Not f.1, b.1, rule.not_tested b.2 f.3))
      (λ x read g. cc)
  condition_mended l before ts d k mark.Is more at h = null_mended l before more (subst (λ rs. Derives (Chained Sum) before l rs) at d) k h
  condition_mended l before ts d k mark.Between more at h = tested l before ts d k h
  condition_mended l before ts d k mark.In more at h = tested l before ts d k h
  condition_mended l before ts d k mark.Like more at h = tested l before ts d k h
  condition_mended l before ts d k mk more at h = cc

  between_mended : (l : Expression) (more : List Token) (k : ℕ) → between_step go l more ≡ Err k → Mended (Test l) k (token.Mark mark.Between ∷ more)
  between_mended l more k h =
      bind_bad (go (Whole (Chained Sum)) more) _ k h
      (λ g. λ rest plain.
      let f = m (Whole (Chained Sum)) more k g (token.Infix operator.And ∷ token.Mark mark.True ∷ rest) (an_and (a_true plain)) in
      (token.Mark mark.Between ∷ f.0, tree.Between l f.1 (tree.Truth true), kept f.2, rule.between f.3 (true_sum rest)))
      (λ low read g. let d = s (Whole (Chained Sum)) more low.0 low.1 read in
      bind_bad (after_and low.1) _ k g
      (λ g. λ rest plain.
      let b = derived_before d k (token.Infix operator.And ∷ token.Mark mark.True ∷ rest) (replaced low.1 (token.Infix operator.And ∷ token.Mark mark.True ∷ rest) k (and_bad low.1 k g) (an_and (a_true plain))) in
      (token.Mark mark.Between ∷ b.0, tree.Between l low.0 (tree.Truth true), kept b.1, rule.between b.2 (true_sum rest)))
      (λ after is g. bind_bad (go (Whole (Chained Sum)) after) _ k g
      (λ g. λ rest plain.
      let f = m (Whole (Chained Sum)) after k g rest plain in
      let b = derived_before (subst (λ rs. Derives (Chained Sum) more low.0 rs) (and_was low.1 after is) d) k (token.Infix operator.And ∷ f.0) (kept f.2) in
      (token.Mark mark.Between ∷ b.0, tree.Between l low.0 f.1, kept b.1, rule.between b.2 f.3))
      (λ x also g. cc)))

  factor_mended : (ts : List Token) (k : ℕ) (op : Operator) (more : List Token) → ts ≡ token.Infix op ∷ more → factor_step go ts op more ≡ Err k → Mended Factor k ts
  factor_mended ts k operator.Add more at h =
      subst (λ rs. Mended Factor k rs) (sym at)
      (bind_bad (go (Whole Factor) more) _ k h
      (λ g. λ rest plain. let f = m (Whole Factor) more k g rest plain in (token.Infix operator.Add ∷ f.0, tree.Signed Plus f.1, kept f.2, rule.plus f.3))
      (λ x read g. cc))
  factor_mended ts k operator.Subtract more at h =
      subst (λ rs. Mended Factor k rs) (sym at)
      (bind_bad (go (Whole Factor) more) _ k h
      (λ g. λ rest plain. let f = m (Whole Factor) more k g rest plain in (token.Infix operator.Subtract ∷ f.0, tree.Signed Minus f.1, kept f.2, rule.minus f.3))
      (λ x read g. cc))
  factor_mended ts k op more at h = λ rest plain. let f = m (Whole Primary) ts k h rest plain in (f.0, f.1, f.2, rule.primary f.3)

  parenthesis_mended : (more : List Token) (k : ℕ) → parenthesis_step go more ≡ Err k → Mended Primary k (token.Mark mark.Open ∷ more)
  parenthesis_mended more k h =
      bind_bad (go (Whole (Chained Disjunction)) more) _ k h
      (λ g. λ rest plain.
      let f = m (Whole (Chained Disjunction)) more k g (token.Mark mark.Close ∷ rest) (a_close plain) in
      (token.Mark mark.Open ∷ f.0, f.1, kept f.2, rule.parenthesis f.3))
      (λ x read g. bind_bad (after_close x.1) _ k g
      (λ g. λ rest plain.
      let b = derived_before (s (Whole (Chained Disjunction)) more x.0 x.1 read) k (token.Mark mark.Close ∷ rest) (replaced x.1 (token.Mark mark.Close ∷ rest) k (close_bad x.1 k g) (a_close plain)) in
      (token.Mark mark.Open ∷ b.0, x.0, kept b.1, rule.parenthesis b.2))
      (λ y is g. cc))

  mark_mended : (ts : List Token) (k : ℕ) (mk : Mark) (more : List Token) → ts ≡ token.Mark mk ∷ more → mark_step go ts mk more ≡ Err k → Mended Primary k ts
  mark_mended ts k mark.Open more at h = subst (λ rs. Mended Primary k rs) (sym at) (parenthesis_mended more k h)
  mark_mended ts k mark.True more at h = cc
  mark_mended ts k mark.False more at h = cc
  mark_mended ts k mk more at h = at_once Primary ts k h

  primary_mended : (ts : List Token) (k : ℕ) → primary_step go ts ≡ Err k → Mended Primary k ts
  primary_mended [] k h = at_once Primary [] k h
  primary_mended (token.Infix op ∷ more) k h = at_once Primary (token.Infix op ∷ more) k h
  primary_mended (token.Mark mk ∷ more) k h = mark_mended (token.Mark mk ∷ more) k mk more refl h
  primary_mended (token.Name t ∷ more) k h = cc
  primary_mended (token.Number z ∷ more) k h = cc
  primary_mended (token.Text t ∷ more) k h = cc

in_mended : (l : Expression) (more : List Token) (k : ℕ) → in_step l more ≡ Err k → Mended (Test l) k (token.Mark mark.In ∷ more)
in_mended l more k h =
    bind_bad (after_open more) _ k h
    (λ g. λ rest plain. (
      token.Mark mark.In ∷ token.Mark mark.Open ∷ token.Text [] ∷ token.Mark mark.Close ∷ rest,
      tree.In l ([] ∷ []),
      subst (λ n. Mends n (token.Mark mark.In ∷ more) (token.Mark mark.In ∷ token.Mark mark.Open ∷ token.Text [] ∷ token.Mark mark.Close ∷ rest)) (open_bad more k g) (behind_in (an_empty (a_close plain))),
      rule.among rule.last,
    ))
    (λ list is g. bind_bad (texts_of list) _ k g
    (λ g. λ rest plain.
    let f = texts_mended list k g rest plain in (
      token.Mark mark.In ∷ token.Mark mark.Open ∷ f.0,
      tree.In l f.1,
      subst (λ rs. Mends k (token.Mark mark.In ∷ rs) (token.Mark mark.In ∷ token.Mark mark.Open ∷ f.0)) (sym (open_was more list is)) (kept (kept f.2)),
      rule.among f.3,
    ))
    (λ x read g. cc))

like_mended : (l : Expression) (more : List Token) (k : ℕ) → like_step l more ≡ Err k → Mended (Test l) k (token.Mark mark.Like ∷ more)
like_mended l more k h =
    on_text_cases (λ r. IsBad r k → Mended (Test l) k (token.Mark mark.Like ∷ more)) more _ _
    (λ p after at g. bind_bad (escape_of after) _ k g
    (λ g. subst (λ rs. Mended (Test l) k (token.Mark mark.Like ∷ rs)) (sym at) (escape_mended l p after k g))
    (λ x read g. cc))
    (λ g. λ rest plain. (token.Mark mark.Like ∷ token.Text [] ∷ rest, tree.Like l (pattern_of None []), kept (replaced more (token.Text [] ∷ rest) k (err_same (length more) k g) (an_empty plain)), rule.like)) h

test_mended : (go : Goal → List Token → Reading Expression) → IsSound go → IsMended go → (l : Expression) (ts : List Token) (k : ℕ) (mk : Mark) (more : List Token) → ts ≡ token.Mark mk ∷ more → test_step go l ts mk more ≡ Err k → Mended (Test l) k ts
test_mended go s m l ts k mark.Between more at h = subst (λ rs. Mended (Test l) k rs) (sym at) (between_mended go s m l more k h)
test_mended go s m l ts k mark.In more at h = subst (λ rs. Mended (Test l) k rs) (sym at) (in_mended l more k h)
test_mended go s m l ts k mark.Like more at h = subst (λ rs. Mended (Test l) k rs) (sym at) (like_mended l more k h)
test_mended go s m l ts k mk more at h = at_once (Test l) ts k h

step_mended : (go : Goal → List Token → Reading Expression) → IsSound go → IsMended go → IsMended (step go)
unfolding step
step_mended go s m (Whole (Chained chain)) ts k h =
    bind_bad (go (Whole (operand_of chain)) ts) _ k h
    (λ g. λ rest plain. let f = m (Whole (operand_of chain)) ts k g rest plain in (f.0, f.1, f.2, rule.one f.3))
    (λ x read g. m (Chain_after chain x.0) x.1 k g ts (rule.one (s (Whole (operand_of chain)) ts x.0 x.1 read)))
step_mended go s m (Chain_after chain l) ts k h = λ before d.
    on_infix_cases (λ r. IsBad r k → Mended (Chained chain) k before) ts _ _ (chain_mended go s m chain l before ts d k) (λ g. cc) h
step_mended go s m (Whole Negation) ts k h =
    on_mark_cases (λ r. IsBad r k → Mended Negation k ts) ts _ _ (negation_mended go s m ts k)
    (λ g. λ rest plain. let f = m (Whole Condition) ts k g rest plain in (f.0, f.1, f.2, rule.condition f.3)) h
step_mended go s m (Whole Condition) ts k h =
    bind_bad (go (Whole (Chained Sum)) ts) _ k h
    (λ g. λ rest plain. let f = m (Whole (Chained Sum)) ts k g rest plain in (f.0, f.1, f.2, rule.sum f.3))
    (λ x read g. m (Condition_after x.0) x.1 k g ts (s (Whole (Chained Sum)) ts x.0 x.1 read))
step_mended go s m (Condition_after l) ts k h = λ before d.
    on_infix_cases (λ r. IsBad r k → Mended Condition k before) ts _ _ (comparison_mended go s m l before ts d k)
    (on_mark_cases (λ r. IsBad r k → Mended Condition k before) ts _ _ (condition_mended go s m l before ts d k) (λ g. cc)) h
step_mended go s m (Whole (Test l)) ts k h =
    on_mark_cases (λ r. IsBad r k → Mended (Test l) k ts) ts _ _ (test_mended go s m l ts k) (at_once (Test l) ts k) h
step_mended go s m (Whole Factor) ts k h =
    on_infix_cases (λ r. IsBad r k → Mended Factor k ts) ts _ _ (factor_mended go s m ts k)
    (λ g. λ rest plain. let f = m (Whole Primary) ts k g rest plain in (f.0, f.1, f.2, rule.primary f.3)) h
step_mended go s m (Whole Primary) ts k h = primary_mended go s m ts k h

-- where no steps are left, nothing was read
none_mended : (goal : Goal) (ts : List Token) (k : ℕ) → IsBad (Err (length ts)) k → SaysBad goal ts k
none_mended (Whole level) ts k h = at_once level ts k h
none_mended (Chain_after chain l) ts k h = λ before d rest plain.
    let b = derived_before d k rest (replaced ts rest k (err_same (length ts) k h) plain) in
    (b.0, l, b.1, b.2)
none_mended (Condition_after l) ts k h = λ before d rest plain.
    let b = derived_before d k rest (replaced ts rest k (err_same (length ts) k h) plain) in
    (b.0, l, b.1, rule.sum b.2)

pub reads_mended : (n : ℕ) → IsMended (reads n)
unfolding reads
reads_mended zero goal ts k h = none_mended goal ts k h
reads_mended (suc n) goal ts k h = step_mended (reads n) (reads_sound n) (reads_mended n) goal ts k h
