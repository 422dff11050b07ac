-- A parser with as many steps or more does on other tokens what it did, as long as they are the same.
use Rattle.std.proofs.Common.{◌≡◌, ◌+◌, ◌*◌, ◌<◌, ◌≤◌, ℕ, zero, suc, Bool, true, false, cond, List, [], ◌∷◌, length, Some, None, Ok, arith}
use Rattle.std.specs.Str.{chars}
use Rattle.sp_selector.specs.declared.parse.Chain.{Chain}
use Rattle.sp_selector.specs.declared.parse.Chain.TheVariants.{Disjunction, Sum}
use Rattle.sp_selector.specs.declared.token.Mark.TheVariants as mark
use Rattle.sp_selector.specs.declared.token.Token.{Token}
use Rattle.sp_selector.specs.declared.token.Token.TheVariants as token
use Rattle.sp_selector.specs.declared.tree.Operator.TheVariants as operator
use Rattle.sp_selector.specs.declared.tree.Sign.TheVariants.{Plus, Minus}
use Rattle.sp_selector.specs.Grammar.{Level, Chained, Negation, Condition, Test, Factor, Primary, operand_of, joins, is_comparison}
use Rattle.sp_pattern.specs.Pattern.{pattern_of}
use Rattle.sp_selector.specs.Parser.{◌>>=◌, Reading, Goal, Whole, Chain_after, Condition_after, after_and, after_close, after_open, after_null, null_test, texts_of, only_char, escape_of, between_step, in_step, like_step, parenthesis_step, step, reads}
use Rattle.sp_selector.specs.Tree.{Expression}
use Rattle.sp_selector.specs.Tree as tree
use Rattle.sp_selector.proofs.Complete.{rank, operand_rank, rank_small, shorter}
use Rattle.sp_selector.proofs.Near.{Near, same, past, Follows, follows_more, follows_ok, follows_err, follows_bind, by_head, wants_and, wants_close, wants_open, wants_null, after_head, follows_after}
use Rattle.sp_selector.proofs.Sound.{reads_sound}

-- so many steps are enough
abbrev pub Enough : Goal → List Token → ℕ → Type 0
Enough (Whole level) ts n = 10 * length ts + rank level ≤ n
Enough (Chain_after chain l) ts n = 10 * length ts < n
Enough (Condition_after l) ts n = 10 * length ts + 1 < n

abbrev pub IsFollowed : ℕ → ℕ → (Goal → List Token → Reading Expression) → (Goal → List Token → Reading Expression) → Type 0
IsFollowed j n go further = (goal : Goal) (ts us : List Token) → Enough goal ts n → Near j ts us → Follows j (length ts) (go goal ts) (further goal us)

-- what is read takes a token or more
abbrev IsShort : (Goal → List Token → Reading Expression) → Type 0
IsShort go = (level : Level) (ts : List Token) (e : Expression) (rest : List Token) → go (Whole level) ts ≡ Ok (e, rest) → length rest < length ts

follows_cond : (j n : ℕ) (b : Bool) (r q d e : Reading Expression) → Follows j n r q → Follows j n d e → Follows j n (cond b r d) (cond b q e)
follows_cond j n true r q d e first second = first
follows_cond j n false r q d e first second = second

-- what is read with no level inside
module _ (j : ℕ) (some : 0 < j) where
  null_follows : (l : Expression) (ts us : List Token) → Near j ts us → Follows j (length ts) (null_test l ts) (null_test l us)
  null_follows l ts us near = by_head j (length ts) (null_test l) (null_test l) head (follows_err j 0 0 0 (omega arith)) (omega arith) near
    where
      head : (t : Token) (rs ws : List Token) → length rs < length ts → Near j rs ws → Follows j (suc (length rs)) (null_test l (t ∷ rs)) (null_test l (t ∷ ws))
      head (token.Mark mark.Not) rs ws few near =
          follows_more j (length rs) (suc (length rs)) (null_test l (token.Mark mark.Not ∷ rs)) (null_test l (token.Mark mark.Not ∷ ws)) (omega arith)
          (follows_after j (length rs) after_null wants_null (λ xs. Ok (tree.Not (tree.IsNull l), xs)) (λ xs. Ok (tree.Not (tree.IsNull l), xs)) (λ xs ys few near. follows_ok j (length xs) (tree.Not (tree.IsNull l)) xs ys (omega arith) near) (omega arith) near)
      head t rs ws few near =
          after_head j (suc (length rs)) after_null wants_null (λ xs. Ok (tree.IsNull l, xs)) (λ xs. Ok (tree.IsNull l, xs)) (λ xs ys few near. follows_ok j (length xs) (tree.IsNull l) xs ys (omega arith) near) t rs ws (omega arith) near

  texts_follow : (n : ℕ) (ts us : List Token) → length ts ≤ n → Near j ts us → Follows j (length ts) (texts_of ts) (texts_of us)
  texts_follow zero [] us few near = by_head j 0 texts_of texts_of (λ t rs ws few near. absurd (omega arith)) (follows_err j 0 0 0 (omega arith)) few near
  texts_follow zero (t ∷ ts) us few near = absurd (omega arith)
  texts_follow (suc n) ts us few near = by_head j (suc n) texts_of texts_of (head (texts_follow n)) (follows_err j 0 0 0 (omega arith)) few near
    where
      behind : ((rs ws : List Token) → length rs ≤ n → Near j rs ws → Follows j (length rs) (texts_of rs) (texts_of ws)) → (text : List ℕ) (t : Token) (rs ws : List Token) → length rs < n → Near j rs ws → Follows j (suc (length rs)) (texts_of (token.Text text ∷ t ∷ rs)) (texts_of (token.Text text ∷ t ∷ ws))
      behind inner text (token.Mark mark.Close) rs ws few near = follows_ok j (suc (length rs)) (text ∷ []) rs ws (omega arith) near
      behind inner text (token.Mark mark.Comma) rs ws few near =
          follows_more j (length rs) (suc (length rs)) (texts_of (token.Text text ∷ token.Mark mark.Comma ∷ rs)) (texts_of (token.Text text ∷ token.Mark mark.Comma ∷ ws)) (omega arith)
          (follows_bind j (length rs) (texts_of rs) (texts_of ws) (λ x. Ok (text ∷ x.0, x.1)) (λ x. Ok (text ∷ x.0, x.1)) (inner rs ws (omega arith) near)
          (λ x xs ys read less near. follows_ok j (length xs) (text ∷ x) xs ys (omega arith) near))
      behind inner text t rs ws few near = follows_err j (suc (length rs)) (suc (length rs)) (suc (length ws)) (omega arith)

      head : ((rs ws : List Token) → length rs ≤ n → Near j rs ws → Follows j (length rs) (texts_of rs) (texts_of ws)) → (t : Token) (rs ws : List Token) → length rs < suc n → Near j rs ws → Follows j (suc (length rs)) (texts_of (t ∷ rs)) (texts_of (t ∷ ws))
      head inner (token.Text text) rs ws few near =
          follows_more j (length rs) (suc (length rs)) (texts_of (token.Text text ∷ rs)) (texts_of (token.Text text ∷ ws)) (omega arith)
          (by_head j n (λ xs. texts_of (token.Text text ∷ xs)) (λ xs. texts_of (token.Text text ∷ xs)) (behind inner text) (follows_err j 0 0 0 (omega arith)) (omega arith) near)
      head inner t rs ws few near = follows_err j (suc (length rs)) (suc (length rs)) (suc (length ws)) (omega arith)

  char_follows : (cs : List ℕ) (ts us : List Token) → Near j ts us → Follows j (suc (length ts)) (only_char cs (suc (length ts)) >>= λ c. Ok (Some c, ts)) (only_char cs (suc (length us)) >>= λ c. Ok (Some c, us))
  char_follows [] ts us near = follows_err j (suc (length ts)) (suc (length ts)) (suc (length us)) (omega arith)
  char_follows (c ∷ []) ts us near = follows_ok j (suc (length ts)) (Some c) ts us (omega arith) near
  char_follows (c ∷ d ∷ cs) ts us near = follows_err j (suc (length ts)) (suc (length ts)) (suc (length us)) (omega arith)

  escape_follows : (ts us : List Token) → Near j ts us → Follows j (length ts) (escape_of ts) (escape_of us)
  escape_follows ts us near = by_head j (length ts) escape_of escape_of head (follows_ok j 0 None [] [] (omega arith) (past some)) (omega arith) near
    where
      behind : (t : Token) (rs ws : List Token) → length rs < length ts → Near j rs ws → Follows j (suc (length rs)) (escape_of (token.Mark mark.Escape ∷ t ∷ rs)) (escape_of (token.Mark mark.Escape ∷ t ∷ ws))
      behind (token.Text t) rs ws few near = char_follows (chars t) rs ws near
      behind t rs ws few near = follows_err j (suc (length rs)) (suc (length rs)) (suc (length ws)) (omega arith)

      head : (t : Token) (rs ws : List Token) → length rs < length ts → Near j rs ws → Follows j (suc (length rs)) (escape_of (t ∷ rs)) (escape_of (t ∷ ws))
      head (token.Mark mark.Escape) rs ws few near =
          follows_more j (length rs) (suc (length rs)) (escape_of (token.Mark mark.Escape ∷ rs)) (escape_of (token.Mark mark.Escape ∷ ws)) (omega arith)
          (by_head j (length ts) (λ xs. escape_of (token.Mark mark.Escape ∷ xs)) (λ xs. escape_of (token.Mark mark.Escape ∷ xs)) behind (follows_err j 0 0 0 (omega arith)) (omega arith) near)
      head t rs ws few near = follows_ok j (suc (length rs)) None (t ∷ rs) (t ∷ ws) (omega arith) (same near)

  like_follows : (l : Expression) (ts us : List Token) → Near j ts us → Follows j (length ts) (like_step l ts) (like_step l us)
  like_follows l ts us near = by_head j (length ts) (like_step l) (like_step l) head (follows_err j 0 0 0 (omega arith)) (omega arith) near
    where
      head : (t : Token) (rs ws : List Token) → length rs < length ts → Near j rs ws → Follows j (suc (length rs)) (like_step l (t ∷ rs)) (like_step l (t ∷ ws))
      head (token.Text p) rs ws few near =
          follows_more j (length rs) (suc (length rs)) (like_step l (token.Text p ∷ rs)) (like_step l (token.Text p ∷ ws)) (omega arith)
          (follows_bind j (length rs) (escape_of rs) (escape_of ws) (λ x. Ok (tree.Like l (pattern_of x.0 p), x.1)) (λ x. Ok (tree.Like l (pattern_of x.0 p), x.1)) (escape_follows rs ws near)
          (λ x xs ys read less near. follows_ok j (length xs) (tree.Like l (pattern_of x p)) xs ys (omega arith) near))
      head t rs ws few near = follows_err j (suc (length rs)) (suc (length rs)) (suc (length ws)) (omega arith)

  in_follows : (l : Expression) (ts us : List Token) → Near j ts us → Follows j (length ts) (in_step l ts) (in_step l us)
  in_follows l ts us near =
      follows_after j (length ts) after_open wants_open (λ rs. texts_of rs >>= λ x. Ok (tree.In l x.0, x.1)) (λ rs. texts_of rs >>= λ x. Ok (tree.In l x.0, x.1))
      (λ rs ws few near. follows_bind j (length rs) (texts_of rs) (texts_of ws) (λ x. Ok (tree.In l x.0, x.1)) (λ x. Ok (tree.In l x.0, x.1)) (texts_follow (length rs) rs ws (omega arith) near)
      (λ x xs ys read less near. follows_ok j (length xs) (tree.In l x) xs ys (omega arith) near)) (omega arith) near

-- each level, where what stands inside follows
module _ (j n : ℕ) (some : 0 < j) (go further : Goal → List Token → Reading Expression) (short : IsShort go) (s : IsFollowed j n go further) where
  -- what was read, in a tree
  wrapped : (f : Expression → Expression) (goal : Goal) (ts us : List Token) → Enough goal ts n → Near j ts us → Follows j (suc (length ts)) (go goal ts >>= λ x. Ok (f x.0, x.1)) (further goal us >>= λ x. Ok (f x.0, x.1))
  wrapped f goal ts us enough near =
      follows_more j (length ts) (suc (length ts)) (go goal ts >>= λ x. Ok (f x.0, x.1)) (further goal us >>= λ x. Ok (f x.0, x.1)) (omega arith)
      (follows_bind j (length ts) (go goal ts) (further goal us) (λ x. Ok (f x.0, x.1)) (λ x. Ok (f x.0, x.1)) (s goal ts us enough near)
      (λ x rs ws read less near. follows_ok j (length rs) (f x) rs ws (omega arith) near))

  between_follows : (l : Expression) (ts us : List Token) → 10 * length ts + 4 ≤ n → Near j ts us → Follows j (length ts) (between_step go l ts) (between_step further l us)
  between_follows l ts us enough near =
      follows_bind j (length ts) (go (Whole (Chained Sum)) ts) (further (Whole (Chained Sum)) us)
      (λ low. after_and low.1 >>= λ rest. (go (Whole (Chained Sum)) rest >>= λ high. Ok (tree.Between l low.0 high.0, high.1)))
      (λ low. after_and low.1 >>= λ rest. (further (Whole (Chained Sum)) rest >>= λ high. Ok (tree.Between l low.0 high.0, high.1)))
      (s (Whole (Chained Sum)) ts us enough near)
      (λ low rs ws read less near. follows_after j (length ts) after_and wants_and
      (λ rest. go (Whole (Chained Sum)) rest >>= λ high. Ok (tree.Between l low high.0, high.1))
      (λ rest. further (Whole (Chained Sum)) rest >>= λ high. Ok (tree.Between l low high.0, high.1))
      (λ xs ys few near. follows_bind j (length xs) (go (Whole (Chained Sum)) xs) (further (Whole (Chained Sum)) ys) (λ high. Ok (tree.Between l low high.0, high.1)) (λ high. Ok (tree.Between l low high.0, high.1))
      (s (Whole (Chained Sum)) xs ys (omega arith) near)
      (λ high ps qs also fewer near. follows_ok j (length ps) (tree.Between l low high) ps qs (omega arith) near)) less near)

  parenthesis_follows : (ts us : List Token) → 10 * length ts + 8 ≤ n → Near j ts us → Follows j (length ts) (parenthesis_step go ts) (parenthesis_step further us)
  parenthesis_follows ts us enough near =
      follows_bind j (length ts) (go (Whole (Chained Disjunction)) ts) (further (Whole (Chained Disjunction)) us)
      (λ x. after_close x.1 >>= λ rest. Ok (x.0, rest)) (λ x. after_close x.1 >>= λ rest. Ok (x.0, rest)) (s (Whole (Chained Disjunction)) ts us enough near)
      (λ x rs ws read less near. follows_after j (length ts) after_close wants_close (λ rest. Ok (x, rest)) (λ rest. Ok (x, rest)) (λ xs ys few near. follows_ok j (length xs) x xs ys (omega arith) near) less near)

  -- behind a first token
  chain_head : (chain : Chain) (l : Expression) (t : Token) (ts us : List Token) → 10 * suc (length ts) < suc n → Near j ts us → Follows j (suc (length ts)) (step go (Chain_after chain l) (t ∷ ts)) (step further (Chain_after chain l) (t ∷ us))
  unfolding step
  chain_head chain l (token.Infix op) ts us enough near =
      follows_cond j (suc (length ts)) (joins chain op) _ _ (Ok (l, token.Infix op ∷ ts)) (Ok (l, token.Infix op ∷ us))
      (follows_more j (length ts) (suc (length ts)) (go (Whole (operand_of chain)) ts >>= λ x. go (Chain_after chain (tree.Binary op l x.0)) x.1) (further (Whole (operand_of chain)) us >>= λ x. further (Chain_after chain (tree.Binary op l x.0)) x.1) (omega arith)
      (follows_bind j (length ts) (go (Whole (operand_of chain)) ts) (further (Whole (operand_of chain)) us) (λ x. go (Chain_after chain (tree.Binary op l x.0)) x.1) (λ x. further (Chain_after chain (tree.Binary op l x.0)) x.1)
      (s (Whole (operand_of chain)) ts us (omega (arith, rank_small (operand_of chain))) near)
      (λ x rs ws read less near. s (Chain_after chain (tree.Binary op l x)) rs ws (omega arith) near)))
      (follows_ok j (suc (length ts)) l (token.Infix op ∷ ts) (token.Infix op ∷ us) (omega arith) (same near))
  chain_head chain l t ts us enough near = follows_ok j (suc (length ts)) l (t ∷ ts) (t ∷ us) (omega arith) (same near)

  negation_head : (t : Token) (ts us : List Token) → 10 * suc (length ts) + 6 ≤ suc n → Near j ts us → Follows j (suc (length ts)) (step go (Whole Negation) (t ∷ ts)) (step further (Whole Negation) (t ∷ us))
  unfolding step
  negation_head (token.Mark mark.Not) ts us enough near = wrapped tree.Not (Whole Negation) ts us (omega arith) near
  negation_head t ts us enough near = s (Whole Condition) (t ∷ ts) (t ∷ us) (omega arith) (same near)

  condition_head : (l : Expression) (t : Token) (ts us : List Token) → 10 * suc (length ts) + 1 < suc n → Near j ts us → Follows j (suc (length ts)) (step go (Condition_after l) (t ∷ ts)) (step further (Condition_after l) (t ∷ us))
  unfolding step
  condition_head l (token.Infix op) ts us enough near =
      follows_cond j (suc (length ts)) (is_comparison op) _ _ (Ok (l, token.Infix op ∷ ts)) (Ok (l, token.Infix op ∷ us))
      (wrapped (tree.Binary op l) (Whole (Chained Sum)) ts us (omega arith) near)
      (follows_ok j (suc (length ts)) l (token.Infix op ∷ ts) (token.Infix op ∷ us) (omega arith) (same near))
  condition_head l (token.Mark mark.Not) ts us enough near = wrapped tree.Not (Whole (Test l)) ts us (omega arith) near
  condition_head l (token.Mark mark.Is) ts us enough near =
      follows_more j (length ts) (suc (length ts)) (null_test l ts) (null_test l us) (omega arith) (null_follows j some l ts us near)
  condition_head l (token.Mark mark.Between) ts us enough near = s (Whole (Test l)) (token.Mark mark.Between ∷ ts) (token.Mark mark.Between ∷ us) (omega arith) (same near)
  condition_head l (token.Mark mark.In) ts us enough near = s (Whole (Test l)) (token.Mark mark.In ∷ ts) (token.Mark mark.In ∷ us) (omega arith) (same near)
  condition_head l (token.Mark mark.Like) ts us enough near = s (Whole (Test l)) (token.Mark mark.Like ∷ ts) (token.Mark mark.Like ∷ us) (omega arith) (same near)
  condition_head l t ts us enough near = follows_ok j (suc (length ts)) l (t ∷ ts) (t ∷ us) (omega arith) (same near)

  test_head : (l : Expression) (t : Token) (ts us : List Token) → 10 * suc (length ts) + 1 ≤ suc n → Near j ts us → Follows j (suc (length ts)) (step go (Whole (Test l)) (t ∷ ts)) (step further (Whole (Test l)) (t ∷ us))
  unfolding step
  test_head l (token.Mark mark.Between) ts us enough near = follows_more j (length ts) (suc (length ts)) (between_step go l ts) (between_step further l us) (omega arith) (between_follows l ts us (omega arith) near)
  test_head l (token.Mark mark.In) ts us enough near = follows_more j (length ts) (suc (length ts)) (in_step l ts) (in_step l us) (omega arith) (in_follows j some l ts us near)
  test_head l (token.Mark mark.Like) ts us enough near = follows_more j (length ts) (suc (length ts)) (like_step l ts) (like_step l us) (omega arith) (like_follows j some l ts us near)
  test_head l t ts us enough near = follows_err j (suc (length ts)) (suc (length ts)) (suc (length us)) (omega arith)

  factor_head : (t : Token) (ts us : List Token) → 10 * suc (length ts) + 2 ≤ suc n → Near j ts us → Follows j (suc (length ts)) (step go (Whole Factor) (t ∷ ts)) (step further (Whole Factor) (t ∷ us))
  unfolding step
  factor_head (token.Infix operator.Add) ts us enough near = wrapped (tree.Signed Plus) (Whole Factor) ts us (omega arith) near
  factor_head (token.Infix operator.Subtract) ts us enough near = wrapped (tree.Signed Minus) (Whole Factor) ts us (omega arith) near
  factor_head t ts us enough near = s (Whole Primary) (t ∷ ts) (t ∷ us) (omega arith) (same near)

  primary_head : (t : Token) (ts us : List Token) → 10 * suc (length ts) + 1 ≤ suc n → Near j ts us → Follows j (suc (length ts)) (step go (Whole Primary) (t ∷ ts)) (step further (Whole Primary) (t ∷ us))
  unfolding step
  primary_head (token.Mark mark.Open) ts us enough near = follows_more j (length ts) (suc (length ts)) (parenthesis_step go ts) (parenthesis_step further us) (omega arith) (parenthesis_follows ts us (omega arith) near)
  primary_head (token.Mark mark.True) ts us enough near = follows_ok j (suc (length ts)) (tree.Truth true) ts us (omega arith) near
  primary_head (token.Mark mark.False) ts us enough near = follows_ok j (suc (length ts)) (tree.Truth false) ts us (omega arith) near
  primary_head (token.Name t) ts us enough near = follows_ok j (suc (length ts)) (tree.Property t) ts us (omega arith) near
  primary_head (token.Number z) ts us enough near = follows_ok j (suc (length ts)) (tree.Number z) ts us (omega arith) near
  primary_head (token.Text t) ts us enough near = follows_ok j (suc (length ts)) (tree.Text t) ts us (omega arith) near
  primary_head t ts us enough near = follows_err j (suc (length ts)) (suc (length ts)) (suc (length us)) (omega arith)

  step_follows : IsFollowed j (suc n) (step go) (step further)
  unfolding step
  step_follows (Whole (Chained chain)) ts us enough near =
      follows_bind j (length ts) (go (Whole (operand_of chain)) ts) (further (Whole (operand_of chain)) us) (λ x. go (Chain_after chain x.0) x.1) (λ x. further (Chain_after chain x.0) x.1)
      (s (Whole (operand_of chain)) ts us (omega (arith, operand_rank chain)) near)
      (λ x rs ws read less near. s (Chain_after chain x) rs ws (omega (arith, operand_rank chain, short (operand_of chain) ts x rs read)) near)
  step_follows (Whole Condition) ts us enough near =
      follows_bind j (length ts) (go (Whole (Chained Sum)) ts) (further (Whole (Chained Sum)) us) (λ x. go (Condition_after x.0) x.1) (λ x. further (Condition_after x.0) x.1)
      (s (Whole (Chained Sum)) ts us (omega arith) near)
      (λ x rs ws read less near. s (Condition_after x) rs ws (omega (arith, short (Chained Sum) ts x rs read)) near)
  step_follows (Chain_after chain l) ts us enough near = by_head j (length ts) (step go (Chain_after chain l)) (step further (Chain_after chain l)) (λ t rs ws few near. chain_head chain l t rs ws (omega arith) near) (follows_ok j 0 l [] [] (omega arith) (past some)) (omega arith) near
  step_follows (Condition_after l) ts us enough near = by_head j (length ts) (step go (Condition_after l)) (step further (Condition_after l)) (λ t rs ws few near. condition_head l t rs ws (omega arith) near) (follows_ok j 0 l [] [] (omega arith) (past some)) (omega arith) near
  step_follows (Whole Negation) ts us enough near = by_head j (length ts) (step go (Whole Negation)) (step further (Whole Negation)) (λ t rs ws few near. negation_head t rs ws (omega arith) near) (s (Whole Condition) [] [] (omega arith) (past some)) (omega arith) near
  step_follows (Whole (Test l)) ts us enough near = by_head j (length ts) (step go (Whole (Test l))) (step further (Whole (Test l))) (λ t rs ws few near. test_head l t rs ws (omega arith) near) (follows_err j 0 0 0 (omega arith)) (omega arith) near
  step_follows (Whole Factor) ts us enough near = by_head j (length ts) (step go (Whole Factor)) (step further (Whole Factor)) (λ t rs ws few near. factor_head t rs ws (omega arith) near) (s (Whole Primary) [] [] (omega arith) (past some)) (omega arith) near
  step_follows (Whole Primary) ts us enough near = by_head j (length ts) (step go (Whole Primary)) (step further (Whole Primary)) (λ t rs ws few near. primary_head t rs ws (omega arith) near) (follows_err j 0 0 0 (omega arith)) (omega arith) near

-- some step is needed
rank_some : (level : Level) → 0 < rank level
rank_some (Chained chain) = omega (arith, operand_rank chain)
rank_some Negation = omega arith
rank_some Condition = omega arith
rank_some (Test l) = omega arith
rank_some Factor = omega arith
rank_some Primary = omega arith

none_enough : (goal : Goal) (ts : List Token) → Enough goal ts 0 → ⊥
none_enough (Whole level) ts enough = omega (arith, rank_some level)
none_enough (Chain_after chain l) ts enough = omega arith
none_enough (Condition_after l) ts enough = omega arith

pub reads_follow : (j n m : ℕ) → 0 < j → n ≤ m → IsFollowed j n (reads n) (reads m)
unfolding reads
reads_follow j zero m some more goal ts us enough near = absurd (none_enough goal ts enough)
reads_follow j (suc n) zero some more goal ts us enough near = absurd (omega arith)
reads_follow j (suc n) (suc m) some more goal ts us enough near =
    step_follows j n some (reads n) (reads m) (λ level rs e rest read. shorter (reads_sound n (Whole level) rs e rest read)) (reads_follow j n m some (omega arith)) goal ts us enough near
