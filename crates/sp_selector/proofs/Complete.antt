-- What is in the grammar is read.
use Rattle.std.proofs.Common.{◌≡◌, ◌∙◌, ◌+◌, ◌-◌, ◌*◌, ◌<◌, ◌≤◌, ℕ, Bool, true, false, cond, List, [], ◌∷◌, length, Option, Some, None, Ok, refl, ap, lit<, lit≤, arith}
use Rattle.std.proofs.lemmas.Bool.{cond-true, cond-false}
use Rattle.sp_selector.specs.declared.parse.Chain.{Chain}
use Rattle.sp_selector.specs.declared.parse.Chain.TheVariants.{Disjunction, Conjunction, Sum, Product}
use Rattle.sp_selector.specs.declared.token.Mark.{Mark}
use Rattle.sp_selector.specs.declared.token.Mark.TheVariants as mark
use Rattle.sp_selector.specs.declared.token.Token.{Token}
use Rattle.sp_selector.specs.declared.token.Token.TheVariants as token
use Rattle.sp_selector.specs.declared.tree.Operator.{Operator}
use Rattle.sp_selector.specs.declared.tree.Operator.TheVariants as operator
use Rattle.sp_selector.specs.declared.tree.Sign.TheVariants.{Plus, Minus}
use Rattle.sp_selector.specs.Grammar.{Level, Chained, Negation, Condition, Test, Factor, Primary, Derives, Texts, operand_of, joins, is_comparison}
use Rattle.sp_pattern.specs.Pattern.{pattern_of}
use Rattle.sp_selector.specs.Grammar as rule
use Rattle.sp_selector.specs.Parser.{◌>>=◌, Reading, Goal, Whole, Chain_after, Condition_after, on_infix, on_mark, after_close, texts_of, only_char, escape_of, after_and, negation_step, step, reads}
use Rattle.sp_selector.specs.Tree.{Expression}
use Rattle.sp_selector.specs.Tree as tree
use Rattle.sp_selector.proofs.Steps.{reads_step}

-- the tokens begin with an operator, or with a mark, of a kind
abbrev pub has_infix : (Operator → Bool) → List Token → Bool
has_infix p (token.Infix op ∷ ts) = p op
has_infix p ts = false

abbrev pub has_mark : (Mark → Bool) → List Token → Bool
has_mark p (token.Mark m ∷ ts) = p m
has_mark p ts = false

abbrev pub is_escape_mark : Mark → Bool
is_escape_mark mark.Escape = true
is_escape_mark m = false

-- the marks that go on with a condition
abbrev pub goes_on : Mark → Bool
goes_on mark.Not = true
goes_on mark.Is = true
goes_on mark.Between = true
goes_on mark.In = true
goes_on mark.Like = true
goes_on m = false

abbrev pub StopsProduct : List Token → Type 0
StopsProduct ts = (has_infix (joins Product) ts ≡ false) × Unit {0}

abbrev pub StopsSum : List Token → Type 0
StopsSum ts = (has_infix (joins Sum) ts ≡ false) × StopsProduct ts

abbrev pub StopsTest : List Token → Type 0
StopsTest ts = (has_mark is_escape_mark ts ≡ false) × StopsSum ts

abbrev pub StopsCondition : List Token → Type 0
StopsCondition ts = (has_infix is_comparison ts ≡ false) × (has_mark goes_on ts ≡ false) × StopsTest ts

-- nothing goes on with a text of a level
abbrev pub Stops : Level → List Token → Type 0
Stops (Chained Disjunction) ts = (has_infix (joins Disjunction) ts ≡ false) × ((has_infix (joins Conjunction) ts ≡ false) × StopsCondition ts)
Stops (Chained Conjunction) ts = (has_infix (joins Conjunction) ts ≡ false) × StopsCondition ts
Stops (Chained Sum) ts = StopsSum ts
Stops (Chained Product) ts = StopsProduct ts
Stops Negation ts = StopsCondition ts
Stops Condition ts = StopsCondition ts
Stops (Test e) ts = StopsTest ts
Stops Factor ts = Unit {0}
Stops Primary ts = Unit {0}

chain_stops : (chain : Chain) (ts : List Token) → Stops (Chained chain) ts → (has_infix (joins chain) ts ≡ false) × Stops (operand_of chain) ts
chain_stops Disjunction ts s = s
chain_stops Conjunction ts s = s
chain_stops Sum ts s = s
chain_stops Product ts s = s

-- an operator between the operands of a chain doesn't go on with an operand
joint_stops : (chain : Chain) (op : Operator) (more : List Token) → joins chain op ≡ true → Stops (operand_of chain) (token.Infix op ∷ more)
joint_stops Disjunction operator.Or more j = (refl, (refl, refl, (refl, (refl, (refl, tt)))))
joint_stops Disjunction op more j = cc
joint_stops Conjunction operator.And more j = (refl, refl, (refl, (refl, (refl, tt))))
joint_stops Conjunction op more j = cc
joint_stops Sum operator.Add more j = (refl, tt)
joint_stops Sum operator.Subtract more j = (refl, tt)
joint_stops Sum op more j = cc
joint_stops Product op more j = tt

-- a comparison doesn't go on with a sum
comparison_stops : (op : Operator) (more : List Token) → is_comparison op ≡ true → StopsSum (token.Infix op ∷ more)
comparison_stops operator.Equal more j = (refl, (refl, tt))
comparison_stops operator.NotEqual more j = (refl, (refl, tt))
comparison_stops operator.Less more j = (refl, (refl, tt))
comparison_stops operator.AtMost more j = (refl, (refl, tt))
comparison_stops operator.Greater more j = (refl, (refl, tt))
comparison_stops operator.AtLeast more j = (refl, (refl, tt))
comparison_stops op more j = cc

infix_stops : {A : Type 0} (p : Operator → Bool) (ts : List Token) (x : Operator → List Token → A) (d : A) → has_infix p ts ≡ false → on_infix ts (λ op more. cond (p op) (x op more) d) d ≡ d
infix_stops p [] x d h = refl
infix_stops p (token.Infix op ∷ more) x d h = cond-false _ _ _ h
infix_stops p (token.Mark m ∷ more) x d h = refl
infix_stops p (token.Name t ∷ more) x d h = refl
infix_stops p (token.Number z ∷ more) x d h = refl
infix_stops p (token.Text t ∷ more) x d h = refl

-- how many steps a level may take for so many tokens
abbrev pub chain_rank : Chain → ℕ
chain_rank Disjunction = 8
chain_rank Conjunction = 7
chain_rank Sum = 4
chain_rank Product = 3

abbrev pub rank : Level → ℕ
rank (Chained chain) = chain_rank chain
rank Negation = 6
rank Condition = 5
rank (Test e) = 1
rank Factor = 2
rank Primary = 1

pub operand_rank : (chain : Chain) → rank (operand_of chain) < chain_rank chain
operand_rank Disjunction = lit< tt
operand_rank Conjunction = lit< tt
operand_rank Sum = lit< tt
operand_rank Product = lit< tt

pub rank_small : (level : Level) → rank level ≤ 8
rank_small (Chained Disjunction) = lit≤ tt
rank_small (Chained Conjunction) = lit≤ tt
rank_small (Chained Sum) = lit≤ tt
rank_small (Chained Product) = lit≤ tt
rank_small Negation = lit≤ tt
rank_small Condition = lit≤ tt
rank_small (Test e) = lit≤ tt
rank_small Factor = lit≤ tt
rank_small Primary = lit≤ tt

texts_shorter : {ts rest : List Token} {texts : List (List ℕ)} → Texts ts texts rest → length rest < length ts
texts_shorter rule.last = omega arith
texts_shorter (rule.more d) = omega (arith, texts_shorter d)

-- each level takes a token or more
pub shorter : {level : Level} {ts : List Token} {e : Expression} {rest : List Token} → Derives level ts e rest → length rest < length ts
shorter (rule.one d) = shorter d
shorter (rule.another j d f) = omega (arith, shorter d, shorter f)
shorter (rule.negated d) = omega (arith, shorter d)
shorter (rule.condition d) = shorter d
shorter (rule.sum d) = shorter d
shorter (rule.compares j d f) = omega (arith, shorter d, shorter f)
shorter (rule.tested d f) = omega (arith, shorter d, shorter f)
shorter (rule.not_tested d f) = omega (arith, shorter d, shorter f)
shorter (rule.is_null d) = omega (arith, shorter d)
shorter (rule.is_not_null d) = omega (arith, shorter d)
shorter (rule.between d f) = omega (arith, shorter d, shorter f)
shorter (rule.among d) = omega (arith, texts_shorter d)
shorter rule.like = omega arith
shorter (rule.like_escape c) = omega arith
shorter (rule.plus d) = omega (arith, shorter d)
shorter (rule.minus d) = omega (arith, shorter d)
shorter (rule.primary d) = shorter d
shorter rule.number = omega arith
shorter rule.text = omega arith
shorter rule.yes = omega arith
shorter rule.no = omega arith
shorter rule.name = omega arith
shorter (rule.parenthesis d) = omega (arith, shorter d)

texts_complete : {ts rest : List Token} {texts : List (List ℕ)} → Texts ts texts rest → texts_of ts ≡ Ok (texts, rest)
texts_complete rule.last = refl
texts_complete (rule.more {t} d) = ap (λ r. r >>= λ x. Ok (t ∷ x.0, x.1)) (texts_complete d)

escape_stops : (ts : List Token) → has_mark is_escape_mark ts ≡ false → escape_of ts ≡ Ok (None, ts)
escape_stops [] h = refl
escape_stops (token.Infix op ∷ more) h = refl
escape_stops (token.Mark mark.Escape ∷ more) h = cc
escape_stops (token.Mark m ∷ more) h = refl
escape_stops (token.Name t ∷ more) h = refl
escape_stops (token.Number z ∷ more) h = refl
escape_stops (token.Text t ∷ more) h = refl

abbrev pub Full : Level → List Token → Expression → List Token → Type 0
Full level ts e rest = Stops level rest → (n : ℕ) → 10 * length ts + rank level ≤ n → reads n (Whole level) ts ≡ Ok (e, rest)

-- a chain is read up to where it may go on
abbrev pub Reaches : Chain → List Token → Expression → List Token → Type 0
Reaches chain ts e rest = Stops (operand_of chain) rest → (n : ℕ) → 10 * length ts + chain_rank chain ≤ n → (m : ℕ) × (10 * length rest < m) × (reads n (Whole (Chained chain)) ts ≡ reads m (Chain_after chain e) rest)

abbrev pub Complete : Level → List Token → Expression → List Token → Type 0
Complete (Chained chain) ts e rest = Reaches chain ts e rest
Complete level ts e rest = Full level ts e rest

after_stops : (chain : Chain) (e : Expression) (rest : List Token) (m : ℕ) → has_infix (joins chain) rest ≡ false → 0 < m → reads m (Chain_after chain e) rest ≡ Ok (e, rest)
unfolding step
after_stops chain e rest m h some =
    reads_step m (Chain_after chain e) rest some ∙ infix_stops (joins chain) rest (λ op more. reads (m - 1) (Whole (operand_of chain)) more >>= λ x. reads (m - 1) (Chain_after chain (tree.Binary op e x.0)) x.1) (Ok (e, rest)) h

full : (level : Level) (ts : List Token) (e : Expression) (rest : List Token) → Complete level ts e rest → Full level ts e rest
full (Chained chain) ts e rest c = λ stops n enough.
    let s = chain_stops chain rest stops in
    let m = c s.1 n enough in
    m.2 ∙ after_stops chain e rest m.0 s.0 (omega (arith, m.1))
full level ts e rest c = c

-- no primary begins with an operator, and nothing below NOT with NOT
no_infix : {A : Type 0} {ts : List Token} {e : Expression} {rest : List Token} → Derives Primary ts e rest → (f : Operator → List Token → A) (d : A) → on_infix ts f d ≡ d
no_infix rule.number f d = refl
no_infix rule.text f d = refl
no_infix rule.yes f d = refl
no_infix rule.no f d = refl
no_infix rule.name f d = refl
no_infix (rule.parenthesis p) f d = refl

abbrev pub is_not_mark : Mark → Bool
is_not_mark mark.Not = true
is_not_mark m = false

abbrev pub NotFirst : Level → List Token → Type 0
NotFirst (Chained Disjunction) ts = Unit {0}
NotFirst (Chained Conjunction) ts = Unit {0}
NotFirst Negation ts = Unit {0}
NotFirst (Test e) ts = Unit {0}
NotFirst level ts = has_mark is_not_mark ts ≡ false

operand_first : (chain : Chain) (ts : List Token) → NotFirst (operand_of chain) ts → NotFirst (Chained chain) ts
operand_first Disjunction ts h = tt
operand_first Conjunction ts h = tt
operand_first Sum ts h = h
operand_first Product ts h = h

not_first : {level : Level} {ts : List Token} {e : Expression} {rest : List Token} → Derives level ts e rest → NotFirst level ts
not_first (rule.one {chain = chain} {ts = ts} d) = operand_first chain ts (not_first d)
not_first (rule.another j d f) = not_first d
not_first (rule.negated d) = tt
not_first (rule.condition d) = tt
not_first (rule.sum d) = not_first d
not_first (rule.compares j d f) = not_first d
not_first (rule.tested d f) = not_first d
not_first (rule.not_tested d f) = not_first d
not_first (rule.is_null d) = not_first d
not_first (rule.is_not_null d) = not_first d
not_first (rule.between d f) = tt
not_first (rule.among d) = tt
not_first rule.like = tt
not_first (rule.like_escape c) = tt
not_first (rule.plus d) = refl
not_first (rule.minus d) = refl
not_first (rule.primary d) = not_first d
not_first rule.number = refl
not_first rule.text = refl
not_first rule.yes = refl
not_first rule.no = refl
not_first rule.name = refl
not_first (rule.parenthesis d) = refl

negation_skips : (go : Goal → List Token → Reading Expression) (ts us : List Token) → has_mark is_not_mark ts ≡ false → on_mark ts (negation_step go us) (go (Whole Condition) us) ≡ go (Whole Condition) us
negation_skips go [] us h = refl
negation_skips go (token.Infix op ∷ more) us h = refl
negation_skips go (token.Mark mark.Not ∷ more) us h = cc
negation_skips go (token.Mark m ∷ more) us h = refl
negation_skips go (token.Name t ∷ more) us h = refl
negation_skips go (token.Number z ∷ more) us h = refl
negation_skips go (token.Text t ∷ more) us h = refl

condition_ends : (go : Goal → List Token → Reading Expression) (e : Expression) (ts : List Token) → has_infix is_comparison ts ≡ false → has_mark goes_on ts ≡ false → step go (Condition_after e) ts ≡ Ok (e, ts)
unfolding step
condition_ends go e [] h g = refl
condition_ends go e (token.Infix op ∷ more) h g = cond-false _ _ _ h
condition_ends go e (token.Mark mark.Not ∷ more) h g = cc
condition_ends go e (token.Mark mark.Is ∷ more) h g = cc
condition_ends go e (token.Mark mark.Between ∷ more) h g = cc
condition_ends go e (token.Mark mark.In ∷ more) h g = cc
condition_ends go e (token.Mark mark.Like ∷ more) h g = cc
condition_ends go e (token.Mark m ∷ more) h g = refl
condition_ends go e (token.Name t ∷ more) h g = refl
condition_ends go e (token.Number z ∷ more) h g = refl
condition_ends go e (token.Text t ∷ more) h g = refl

test_begins : {e c : Expression} {ts rest : List Token} (go : Goal → List Token → Reading Expression) → Derives (Test e) ts c rest → step go (Condition_after e) ts ≡ go (Whole (Test e)) ts
unfolding step
test_begins go (rule.between d f) = refl
test_begins go (rule.among d) = refl
test_begins go rule.like = refl
test_begins go (rule.like_escape h) = refl

test_stops : {e c : Expression} {ts rest : List Token} → Derives (Test e) ts c rest → StopsSum ts
test_stops (rule.between d f) = (refl, (refl, tt))
test_stops (rule.among d) = (refl, (refl, tt))
test_stops rule.like = (refl, (refl, tt))
test_stops (rule.like_escape h) = (refl, (refl, tt))

-- a condition's first sum is read, and then what follows it
condition_begins : (ts : List Token) (e : Expression) (more : List Token) → Full (Chained Sum) ts e more → StopsSum more → length more < length ts → (n : ℕ) → 10 * length ts + 5 ≤ n → (m : ℕ) × (10 * length more + 13 ≤ m) × (reads n (Whole Condition) ts ≡ step (reads m) (Condition_after e) more)
unfolding step
condition_begins ts e more f stops less n enough =
    (n - 1 - 1, omega arith, reads_step n (Whole Condition) ts (omega arith) ∙ ap (λ r. r >>= λ x. reads (n - 1) (Condition_after x.0) x.1) (f stops (n - 1) (omega arith)) ∙ reads_step (n - 1) (Condition_after e) more (omega arith))

complete : {level : Level} {ts : List Token} {e : Expression} {rest : List Token} → Derives level ts e rest → Complete level ts e rest
unfolding step
complete (rule.one {chain = chain} {ts = ts} {rest = rest} {e = e} d) = λ stops n enough.
    let less = operand_rank chain in
    let fewer = shorter d in
    let inner = full (operand_of chain) ts e rest (complete d) stops (n - 1) (omega (arith, less)) in
    (n - 1, omega (arith, less, fewer), reads_step n (Whole (Chained chain)) ts (omega (arith, less)) ∙ ap (λ r. r >>= λ x. reads (n - 1) (Chain_after chain x.0) x.1) inner)
complete (rule.another {chain = chain} {op = op} {more = more} {rest = rest} {e = e} {f = f} j d g) = λ stops n enough.
    let c = complete d (joint_stops chain op more j) n enough in
    let less = rank_small (operand_of chain) in
    let fewer = shorter g in
    let inner = full (operand_of chain) more f rest (complete g) stops (c.0 - 1) (omega (arith, less, c.1)) in
    (c.0 - 1, omega (arith, fewer, c.1), c.2 ∙ reads_step c.0 (Chain_after chain e) (token.Infix op ∷ more) (omega (arith, c.1)) ∙ cond-true _ _ _ j ∙ ap (λ r. r >>= λ x. reads (c.0 - 1) (Chain_after chain (tree.Binary op e x.0)) x.1) inner)
complete (rule.negated {ts = ts} d) = λ stops n enough.
    reads_step n (Whole Negation) (token.Mark mark.Not ∷ ts) (omega arith) ∙ ap (λ r. r >>= λ x. Ok (tree.Not x.0, x.1)) (complete d stops (n - 1) (omega arith))
complete (rule.condition {ts = ts} d) = λ stops n enough.
    reads_step n (Whole Negation) ts (omega arith) ∙ negation_skips (reads (n - 1)) ts ts (not_first d) ∙ complete d stops (n - 1) (omega arith)
complete (rule.sum {ts = ts} {rest = rest} {e = e} d) = λ stops n enough.
    let c = condition_begins ts e rest (full (Chained Sum) ts e rest (complete d)) stops.2.1 (shorter d) n enough in
    c.2 ∙ condition_ends (reads c.0) e rest stops.0 stops.1
complete (rule.compares {op = op} {ts = ts} {more = more} {rest = rest} {e = e} {f = f} j d g) = λ stops n enough.
    let c = condition_begins ts e (token.Infix op ∷ more) (full (Chained Sum) ts e (token.Infix op ∷ more) (complete d)) (comparison_stops op more j) (shorter d) n enough in
    c.2 ∙ cond-true _ _ _ j ∙ ap (λ r. r >>= λ x. Ok (tree.Binary op e x.0, x.1)) (full (Chained Sum) more f rest (complete g) stops.2.1 c.0 (omega (arith, c.1)))
complete (rule.tested {ts = ts} {more = more} {e = e} d g) = λ stops n enough.
    let c = condition_begins ts e more (full (Chained Sum) ts e more (complete d)) (test_stops g) (shorter d) n enough in
    c.2 ∙ test_begins (reads c.0) g ∙ complete g stops.2 c.0 (omega (arith, c.1))
complete (rule.not_tested {ts = ts} {more = more} {e = e} d g) = λ stops n enough.
    let c = condition_begins ts e (token.Mark mark.Not ∷ more) (full (Chained Sum) ts e (token.Mark mark.Not ∷ more) (complete d)) (refl, (refl, tt)) (shorter d) n enough in
    c.2 ∙ ap (λ r. r >>= λ x. Ok (tree.Not x.0, x.1)) (complete g stops.2 c.0 (omega (arith, c.1)))
complete (rule.is_null {ts = ts} {rest = rest} {e = e} d) = λ stops n enough.
    let c = condition_begins ts e (token.Mark mark.Is ∷ token.Mark mark.Null ∷ rest) (full (Chained Sum) ts e (token.Mark mark.Is ∷ token.Mark mark.Null ∷ rest) (complete d)) (refl, (refl, tt)) (shorter d) n enough in
    c.2
complete (rule.is_not_null {ts = ts} {rest = rest} {e = e} d) = λ stops n enough.
    let c = condition_begins ts e (token.Mark mark.Is ∷ token.Mark mark.Not ∷ token.Mark mark.Null ∷ rest) (full (Chained Sum) ts e (token.Mark mark.Is ∷ token.Mark mark.Not ∷ token.Mark mark.Null ∷ rest) (complete d)) (refl, (refl, tt)) (shorter d) n enough in
    c.2
complete (rule.between {ts = ts} {more = more} {rest = rest} {e = e} {low = low} {high = high} d g) = λ stops n enough.
    let fewer = shorter d in
    let first = full (Chained Sum) ts low (token.Infix operator.And ∷ more) (complete d) (refl, (refl, tt)) (n - 1) (omega arith) in
    let second = full (Chained Sum) more high rest (complete g) stops.1 (n - 1) (omega (arith, fewer)) in
    reads_step n (Whole (Test e)) (token.Mark mark.Between ∷ ts) (omega arith)
    ∙ ap (λ r. r >>= λ x. (after_and x.1 >>= λ rs. (reads (n - 1) (Whole (Chained Sum)) rs >>= λ y. Ok (tree.Between e x.0 y.0, y.1)))) first
    ∙ ap (λ r. r >>= λ y. Ok (tree.Between e low y.0, y.1)) second
complete (rule.among {ts = ts} {e = e} d) = λ stops n enough.
    reads_step n (Whole (Test e)) (token.Mark mark.In ∷ token.Mark mark.Open ∷ ts) (omega arith) ∙ ap (λ r. r >>= λ x. Ok (tree.In e x.0, x.1)) (texts_complete d)
complete (rule.like {rest = rest} {e = e} {p = p}) = λ stops n enough.
    reads_step n (Whole (Test e)) (token.Mark mark.Like ∷ token.Text p ∷ rest) (omega arith) ∙ ap (λ r. r >>= λ x. Ok (tree.Like e (pattern_of x.0 p), x.1)) (escape_stops rest stops.0)
complete (rule.like_escape {rest = rest} {e = e} {p = p} {t = t} h) = λ stops n enough.
    let escaped : List ℕ → Reading (Option ℕ) = λ cs. only_char cs (length (token.Text t ∷ rest)) >>= λ c. Ok (Some c, rest) in
    reads_step n (Whole (Test e)) (token.Mark mark.Like ∷ token.Text p ∷ token.Mark mark.Escape ∷ token.Text t ∷ rest) (omega arith)
    ∙ ap (λ cs. escaped cs >>= λ x. Ok (tree.Like e (pattern_of x.0 p), x.1)) h
complete (rule.plus {ts = ts} d) = λ stops n enough.
    reads_step n (Whole Factor) (token.Infix operator.Add ∷ ts) (omega arith) ∙ ap (λ r. r >>= λ x. Ok (tree.Signed Plus x.0, x.1)) (complete d stops (n - 1) (omega arith))
complete (rule.minus {ts = ts} d) = λ stops n enough.
    reads_step n (Whole Factor) (token.Infix operator.Subtract ∷ ts) (omega arith) ∙ ap (λ r. r >>= λ x. Ok (tree.Signed Minus x.0, x.1)) (complete d stops (n - 1) (omega arith))
complete (rule.primary {ts = ts} d) = λ stops n enough.
    reads_step n (Whole Factor) ts (omega arith) ∙ no_infix d _ _ ∙ complete d stops (n - 1) (omega arith)
complete (rule.number {z = z} {rest = rest}) = λ stops n enough. reads_step n (Whole Primary) (token.Number z ∷ rest) (omega arith)
complete (rule.text {t = t} {rest = rest}) = λ stops n enough. reads_step n (Whole Primary) (token.Text t ∷ rest) (omega arith)
complete (rule.yes {rest = rest}) = λ stops n enough. reads_step n (Whole Primary) (token.Mark mark.True ∷ rest) (omega arith)
complete (rule.no {rest = rest}) = λ stops n enough. reads_step n (Whole Primary) (token.Mark mark.False ∷ rest) (omega arith)
complete (rule.name {t = t} {rest = rest}) = λ stops n enough. reads_step n (Whole Primary) (token.Name t ∷ rest) (omega arith)
complete (rule.parenthesis {ts = ts} {rest = rest} {e = e} d) = λ stops n enough.
    let inner = full (Chained Disjunction) ts e (token.Mark mark.Close ∷ rest) (complete d) (refl, (refl, (refl, refl, (refl, (refl, (refl, tt)))))) (n - 1) (omega arith) in
    reads_step n (Whole Primary) (token.Mark mark.Open ∷ ts) (omega arith) ∙ ap (λ r. r >>= λ x. (after_close x.1 >>= λ rs. Ok (x.0, rs))) inner

-- all tokens of a tree are read
pub all_read : (ts : List Token) (e : Expression) (n : ℕ) → Derives (Chained Disjunction) ts e [] → 10 * length ts + 10 ≤ n → reads n (Whole (Chained Disjunction)) ts ≡ Ok (e, [])
all_read ts e n d enough = full (Chained Disjunction) ts e [] (complete d) (refl, (refl, (refl, refl, (refl, (refl, (refl, tt)))))) n (omega arith)
