-- What is read is in the grammar.
use Rattle.std.proofs.Common.{◌≡◌, ℕ, zero, suc, true, false, List, [], ◌∷◌, length, Option, Some, None, Ok, refl, sym, subst}
use Rattle.std.specs.Str.{chars}
use Rattle.sp_selector.specs.declared.parse.Chain.{Chain}
use Rattle.sp_selector.specs.declared.parse.Chain.TheVariants.{Disjunction, Sum}
use Rattle.sp_selector.specs.declared.token.Mark.{Mark}
use Rattle.sp_selector.specs.declared.token.Mark.TheVariants as mark
use Rattle.sp_selector.specs.declared.token.Token.{Token}
use Rattle.sp_selector.specs.declared.token.Token.TheVariants as token
use Rattle.sp_selector.specs.declared.tree.Operator.{Operator}
use Rattle.sp_selector.specs.declared.tree.Operator.TheVariants as operator
use Rattle.sp_selector.specs.declared.tree.Sign.TheVariants.{Plus, Minus}
use Rattle.sp_selector.specs.Grammar.{Chained, Negation, Condition, Test, Factor, Primary, Derives, Texts, operand_of, joins, is_comparison}
use Rattle.sp_pattern.specs.Pattern.{pattern_of}
use Rattle.sp_selector.specs.Grammar as rule
use Rattle.sp_selector.specs.Parser.{Reading, Goal, Whole, Chain_after, Condition_after, after_and, after_close, after_open, after_null, null_test, texts_of, only_char, escape_of, chain_step, negation_step, comparison_step, condition_step, between_step, in_step, like_step, test_step, factor_step, parenthesis_step, mark_step, primary_step, step, reads}
use Rattle.sp_selector.specs.Tree.{Expression}
use Rattle.sp_selector.specs.Tree as tree
use Rattle.sp_selector.proofs.Readings.{bind_ok, chosen, moved, on_infix_cases, on_mark_cases, on_text_cases}

-- what a reading says of the tokens before
abbrev pub Says : Goal → List Token → Expression → List Token → Type 0
Says (Whole level) ts e rest = Derives level ts e rest
Says (Chain_after chain l) ts e rest = (before : List Token) → Derives (Chained chain) before l ts → Derives (Chained chain) before e rest
Says (Condition_after l) ts e rest = (before : List Token) → Derives (Chained Sum) before l ts → Derives Condition before e rest

abbrev pub IsSound : (Goal → List Token → Reading Expression) → Type 0
IsSound go = (goal : Goal) (ts : List Token) (e : Expression) (rest : List Token) → go goal ts ≡ Ok (e, rest) → Says goal ts e rest

pub and_was : (ts rest : List Token) → after_and ts ≡ Ok rest → ts ≡ token.Infix operator.And ∷ rest
and_was (token.Infix operator.And ∷ ts) rest h = cc
and_was ts rest h = cc

close_was : (ts rest : List Token) → after_close ts ≡ Ok rest → ts ≡ token.Mark mark.Close ∷ rest
close_was (token.Mark mark.Close ∷ ts) rest h = cc
close_was ts rest h = cc

pub open_was : (ts rest : List Token) → after_open ts ≡ Ok rest → ts ≡ token.Mark mark.Open ∷ rest
open_was (token.Mark mark.Open ∷ ts) rest h = cc
open_was ts rest h = cc

null_was : (ts rest : List Token) → after_null ts ≡ Ok rest → ts ≡ token.Mark mark.Null ∷ rest
null_was (token.Mark mark.Null ∷ ts) rest h = cc
null_was ts rest h = cc

-- chains
chain_sound : (go : Goal → List Token → Reading Expression) → IsSound go → (chain : Chain) (l : Expression) (before ts : List Token) → Derives (Chained chain) before l ts → (e : Expression) (rest : List Token) (op : Operator) (more : List Token) → ts ≡ token.Infix op ∷ more → chain_step go chain l ts op more ≡ Ok (e, rest) → Derives (Chained chain) before e rest
chain_sound go s chain l before ts d e rest op more at h =
    chosen (joins chain op) _ _ _ h
    (λ j g. let b = bind_ok (go (Whole (operand_of chain)) more) _ _ g in
    s (Chain_after chain (tree.Binary op l b.0.0)) b.0.1 e rest b.2 before
    (rule.another j (subst (λ rs. Derives (Chained chain) before l rs) at d) (s (Whole (operand_of chain)) more b.0.0 b.0.1 b.1)))
    (λ j g. moved (λ f rs. Derives (Chained chain) before f rs) l e ts rest d g)

negation_sound : (go : Goal → List Token → Reading Expression) → IsSound go → (ts : List Token) (e : Expression) (rest : List Token) (m : Mark) (more : List Token) → ts ≡ token.Mark m ∷ more → negation_step go ts m more ≡ Ok (e, rest) → Derives Negation ts e rest
negation_sound go s ts e rest mark.Not more at h =
    let b = bind_ok (go (Whole Negation) more) _ _ h in
    moved (λ f rs. Derives Negation ts f rs) (tree.Not b.0.0) e b.0.1 rest
    (subst (λ rs. Derives Negation rs (tree.Not b.0.0) b.0.1) (sym at) (rule.negated (s (Whole Negation) more b.0.0 b.0.1 b.1))) b.2
negation_sound go s ts e rest m more at h = rule.condition (s (Whole Condition) ts e rest h)

-- conditions
comparison_sound : (go : Goal → List Token → Reading Expression) → IsSound go → (l : Expression) (before ts : List Token) → Derives (Chained Sum) before l ts → (e : Expression) (rest : List Token) (op : Operator) (more : List Token) → ts ≡ token.Infix op ∷ more → comparison_step go l ts op more ≡ Ok (e, rest) → Derives Condition before e rest
comparison_sound go s l before ts d e rest op more at h =
    chosen (is_comparison op) _ _ _ h
    (λ j g. let b = bind_ok (go (Whole (Chained Sum)) more) _ _ g in
    moved (λ f rs. Derives Condition before f rs) (tree.Binary op l b.0.0) e b.0.1 rest
    (rule.compares j (subst (λ rs. Derives (Chained Sum) before l rs) at d) (s (Whole (Chained Sum)) more b.0.0 b.0.1 b.1)) b.2)
    (λ j g. moved (λ f rs. Derives Condition before f rs) l e ts rest (rule.sum d) g)

null_sound : (l : Expression) (before more : List Token) → Derives (Chained Sum) before l (token.Mark mark.Is ∷ more) → (e : Expression) (rest : List Token) → null_test l more ≡ Ok (e, rest) → Derives Condition before e rest
null_sound l before (token.Mark mark.Not ∷ more) d e rest h =
    let b = bind_ok (after_null more) _ _ h in
    moved (λ f rs. Derives Condition before f rs) (tree.Not (tree.IsNull l)) e b.0 rest
    (rule.is_not_null (subst (λ rs. Derives (Chained Sum) before l (token.Mark mark.Is ∷ token.Mark mark.Not ∷ rs)) (null_was more b.0 b.1) d)) b.2
null_sound l before more d e rest h =
    let b = bind_ok (after_null more) (λ rs. Ok (tree.IsNull l, rs)) (e, rest) h in
    moved (λ f rs. Derives Condition before f rs) (tree.IsNull l) e b.0 rest
    (rule.is_null (subst (λ rs. Derives (Chained Sum) before l (token.Mark mark.Is ∷ rs)) (null_was more b.0 b.1) d)) b.2

condition_sound : (go : Goal → List Token → Reading Expression) → IsSound go → (l : Expression) (before ts : List Token) → Derives (Chained Sum) before l ts → (e : Expression) (rest : List Token) (m : Mark) (more : List Token) → ts ≡ token.Mark m ∷ more → condition_step go l ts m more ≡ Ok (e, rest) → Derives Condition before e rest
condition_sound go s l before ts d e rest mark.Not more at h =
    let b = bind_ok (go (Whole (Test l)) more) _ _ h in
    moved (λ f rs. Derives Condition before f rs) (tree.Not b.0.0) e b.0.1 rest
    (rule.not_tested (subst (λ rs. Derives (Chained Sum) before l rs) at d) (s (Whole (Test l)) more b.0.0 b.0.1 b.1)) b.2
condition_sound go s l before ts d e rest mark.Is more at h = null_sound l before more (subst (λ rs. Derives (Chained Sum) before l rs) at d) e rest h
condition_sound go s l before ts d e rest mark.Between more at h = rule.tested d (s (Whole (Test l)) ts e rest h)
condition_sound go s l before ts d e rest mark.In more at h = rule.tested d (s (Whole (Test l)) ts e rest h)
condition_sound go s l before ts d e rest mark.Like more at h = rule.tested d (s (Whole (Test l)) ts e rest h)
condition_sound go s l before ts d e rest m more at h = moved (λ f rs. Derives Condition before f rs) l e ts rest (rule.sum d) h

-- tests
between_sound : (go : Goal → List Token → Reading Expression) → IsSound go → (l : Expression) (more : List Token) (e : Expression) (rest : List Token) → between_step go l more ≡ Ok (e, rest) → Derives (Test l) (token.Mark mark.Between ∷ more) e rest
between_sound go s l more e rest h =
    let low = bind_ok (go (Whole (Chained Sum)) more) _ _ h in
    let both = bind_ok (after_and low.0.1) _ _ low.2 in
    let high = bind_ok (go (Whole (Chained Sum)) both.0) _ _ both.2 in
    moved (λ f rs. Derives (Test l) (token.Mark mark.Between ∷ more) f rs) (tree.Between l low.0.0 high.0.0) e high.0.1 rest
    (rule.between (subst (λ rs. Derives (Chained Sum) more low.0.0 rs) (and_was low.0.1 both.0 both.1) (s (Whole (Chained Sum)) more low.0.0 low.0.1 low.1)) (s (Whole (Chained Sum)) both.0 high.0.0 high.0.1 high.1)) high.2

texts_sound : (ts : List Token) (texts : List (List ℕ)) (rest : List Token) → texts_of ts ≡ Ok (texts, rest) → Texts ts texts rest
texts_sound (token.Text t ∷ token.Mark mark.Close ∷ ts) texts rest h = moved (λ f rs. Texts (token.Text t ∷ token.Mark mark.Close ∷ ts) f rs) (t ∷ []) texts ts rest rule.last h
texts_sound (token.Text t ∷ token.Mark mark.Comma ∷ ts) texts rest h =
    let b = bind_ok (texts_of ts) _ _ h in
    moved (λ f rs. Texts (token.Text t ∷ token.Mark mark.Comma ∷ ts) f rs) (t ∷ b.0.0) texts b.0.1 rest (rule.more (texts_sound ts b.0.0 b.0.1 b.1)) b.2
texts_sound ts texts rest h = cc

in_sound : (l : Expression) (more : List Token) (e : Expression) (rest : List Token) → in_step l more ≡ Ok (e, rest) → Derives (Test l) (token.Mark mark.In ∷ more) e rest
in_sound l more e rest h =
    let list = bind_ok (after_open more) _ _ h in
    let texts = bind_ok (texts_of list.0) _ _ list.2 in
    moved (λ f rs. Derives (Test l) (token.Mark mark.In ∷ more) f rs) (tree.In l texts.0.0) e texts.0.1 rest
    (subst (λ rs. Derives (Test l) (token.Mark mark.In ∷ rs) (tree.In l texts.0.0) texts.0.1) (sym (open_was more list.0 list.1)) (rule.among (texts_sound list.0 texts.0.0 texts.0.1 texts.1))) texts.2

only_char_was : (cs : List ℕ) (left c : ℕ) → only_char cs left ≡ Ok c → cs ≡ c ∷ []
only_char_was [] left c h = cc
only_char_was (d ∷ []) left c h = cc
only_char_was (d ∷ e ∷ cs) left c h = cc

escape_sound : (l : Expression) (p : List ℕ) (more : List Token) (escape : Option ℕ) (rest : List Token) → escape_of more ≡ Ok (escape, rest) → Derives (Test l) (token.Mark mark.Like ∷ token.Text p ∷ more) (tree.Like l (pattern_of escape p)) rest
escape_sound l p (token.Mark mark.Escape ∷ token.Text t ∷ ts) escape rest h =
    let b = bind_ok (only_char (chars t) (length (token.Text t ∷ ts))) _ _ h in
    moved (λ f rs. Derives (Test l) (token.Mark mark.Like ∷ token.Text p ∷ token.Mark mark.Escape ∷ token.Text t ∷ ts) (tree.Like l (pattern_of f p)) rs) (Some b.0) escape ts rest (rule.like_escape (only_char_was (chars t) (length (token.Text t ∷ ts)) b.0 b.1)) b.2
escape_sound l p (token.Mark mark.Escape ∷ ts) escape rest h = cc
escape_sound l p more escape rest h = moved (λ f rs. Derives (Test l) (token.Mark mark.Like ∷ token.Text p ∷ more) (tree.Like l (pattern_of f p)) rs) None escape more rest rule.like h

like_sound : (l : Expression) (more : List Token) (e : Expression) (rest : List Token) → like_step l more ≡ Ok (e, rest) → Derives (Test l) (token.Mark mark.Like ∷ more) e rest
like_sound l more e rest h =
    on_text_cases (λ r. r ≡ Ok (e, rest) → Derives (Test l) (token.Mark mark.Like ∷ more) e rest) more _ _
    (λ p after at g. let b = bind_ok (escape_of after) _ _ g in
    moved (λ f rs. Derives (Test l) (token.Mark mark.Like ∷ more) f rs) (tree.Like l (pattern_of b.0.0 p)) e b.0.1 rest
    (subst (λ rs. Derives (Test l) (token.Mark mark.Like ∷ rs) (tree.Like l (pattern_of b.0.0 p)) b.0.1) (sym at) (escape_sound l p after b.0.0 b.0.1 b.1)) b.2)
    (λ g. cc) h

test_sound : (go : Goal → List Token → Reading Expression) → IsSound go → (l : Expression) (ts : List Token) (e : Expression) (rest : List Token) (m : Mark) (more : List Token) → ts ≡ token.Mark m ∷ more → test_step go l ts m more ≡ Ok (e, rest) → Derives (Test l) ts e rest
test_sound go s l ts e rest mark.Between more at h = subst (λ rs. Derives (Test l) rs e rest) (sym at) (between_sound go s l more e rest h)
test_sound go s l ts e rest mark.In more at h = subst (λ rs. Derives (Test l) rs e rest) (sym at) (in_sound l more e rest h)
test_sound go s l ts e rest mark.Like more at h = subst (λ rs. Derives (Test l) rs e rest) (sym at) (like_sound l more e rest h)
test_sound go s l ts e rest m more at h = cc

-- factors and primaries
factor_sound : (go : Goal → List Token → Reading Expression) → IsSound go → (ts : List Token) (e : Expression) (rest : List Token) (op : Operator) (more : List Token) → ts ≡ token.Infix op ∷ more → factor_step go ts op more ≡ Ok (e, rest) → Derives Factor ts e rest
factor_sound go s ts e rest operator.Add more at h =
    let b = bind_ok (go (Whole Factor) more) _ _ h in
    moved (λ f rs. Derives Factor ts f rs) (tree.Signed Plus b.0.0) e b.0.1 rest
    (subst (λ rs. Derives Factor rs (tree.Signed Plus b.0.0) b.0.1) (sym at) (rule.plus (s (Whole Factor) more b.0.0 b.0.1 b.1))) b.2
factor_sound go s ts e rest operator.Subtract more at h =
    let b = bind_ok (go (Whole Factor) more) _ _ h in
    moved (λ f rs. Derives Factor ts f rs) (tree.Signed Minus b.0.0) e b.0.1 rest
    (subst (λ rs. Derives Factor rs (tree.Signed Minus b.0.0) b.0.1) (sym at) (rule.minus (s (Whole Factor) more b.0.0 b.0.1 b.1))) b.2
factor_sound go s ts e rest op more at h = rule.primary (s (Whole Primary) ts e rest h)

parenthesis_sound : (go : Goal → List Token → Reading Expression) → IsSound go → (more : List Token) (e : Expression) (rest : List Token) → parenthesis_step go more ≡ Ok (e, rest) → Derives Primary (token.Mark mark.Open ∷ more) e rest
parenthesis_sound go s more e rest h =
    let inner = bind_ok (go (Whole (Chained Disjunction)) more) _ _ h in
    let close = bind_ok (after_close inner.0.1) _ _ inner.2 in
    moved (λ f rs. Derives Primary (token.Mark mark.Open ∷ more) f rs) inner.0.0 e close.0 rest
    (rule.parenthesis (subst (λ rs. Derives (Chained Disjunction) more inner.0.0 rs) (close_was inner.0.1 close.0 close.1) (s (Whole (Chained Disjunction)) more inner.0.0 inner.0.1 inner.1))) close.2

mark_sound : (go : Goal → List Token → Reading Expression) → IsSound go → (ts : List Token) (e : Expression) (rest : List Token) (m : Mark) (more : List Token) → ts ≡ token.Mark m ∷ more → mark_step go ts m more ≡ Ok (e, rest) → Derives Primary ts e rest
mark_sound go s ts e rest mark.Open more at h = subst (λ rs. Derives Primary rs e rest) (sym at) (parenthesis_sound go s more e rest h)
mark_sound go s ts e rest mark.True more at h = moved (λ f rs. Derives Primary ts f rs) (tree.Truth true) e more rest (subst (λ rs. Derives Primary rs (tree.Truth true) more) (sym at) rule.yes) h
mark_sound go s ts e rest mark.False more at h = moved (λ f rs. Derives Primary ts f rs) (tree.Truth false) e more rest (subst (λ rs. Derives Primary rs (tree.Truth false) more) (sym at) rule.no) h
mark_sound go s ts e rest m more at h = cc

primary_sound : (go : Goal → List Token → Reading Expression) → IsSound go → (ts : List Token) (e : Expression) (rest : List Token) → primary_step go ts ≡ Ok (e, rest) → Derives Primary ts e rest
primary_sound go s [] e rest h = cc
primary_sound go s (token.Infix op ∷ more) e rest h = cc
primary_sound go s (token.Mark m ∷ more) e rest h = mark_sound go s (token.Mark m ∷ more) e rest m more refl h
primary_sound go s (token.Name t ∷ more) e rest h = moved (λ f rs. Derives Primary (token.Name t ∷ more) f rs) (tree.Property t) e more rest rule.name h
primary_sound go s (token.Number z ∷ more) e rest h = moved (λ f rs. Derives Primary (token.Number z ∷ more) f rs) (tree.Number z) e more rest rule.number h
primary_sound go s (token.Text t ∷ more) e rest h = moved (λ f rs. Derives Primary (token.Text t ∷ more) f rs) (tree.Text t) e more rest rule.text h

-- where what stands inside is read soundly, so is the whole
step_sound : (go : Goal → List Token → Reading Expression) → IsSound go → IsSound (step go)
unfolding step
step_sound go s (Whole (Chained chain)) ts e rest h =
    let b = bind_ok (go (Whole (operand_of chain)) ts) _ _ h in
    s (Chain_after chain b.0.0) b.0.1 e rest b.2 ts (rule.one (s (Whole (operand_of chain)) ts b.0.0 b.0.1 b.1))
step_sound go s (Chain_after chain l) ts e rest h = λ before d.
    on_infix_cases (λ r. r ≡ Ok (e, rest) → Derives (Chained chain) before e rest) ts _ _ (chain_sound go s chain l before ts d e rest) (moved (λ f rs. Derives (Chained chain) before f rs) l e ts rest d) h
step_sound go s (Whole Negation) ts e rest h =
    on_mark_cases (λ r. r ≡ Ok (e, rest) → Derives Negation ts e rest) ts _ _ (negation_sound go s ts e rest) (λ g. rule.condition (s (Whole Condition) ts e rest g)) h
step_sound go s (Whole Condition) ts e rest h =
    let b = bind_ok (go (Whole (Chained Sum)) ts) _ _ h in
    s (Condition_after b.0.0) b.0.1 e rest b.2 ts (s (Whole (Chained Sum)) ts b.0.0 b.0.1 b.1)
step_sound go s (Condition_after l) ts e rest h = λ before d.
    on_infix_cases (λ r. r ≡ Ok (e, rest) → Derives Condition before e rest) ts _ _ (comparison_sound go s l before ts d e rest)
    (on_mark_cases (λ r. r ≡ Ok (e, rest) → Derives Condition before e rest) ts _ _ (condition_sound go s l before ts d e rest) (moved (λ f rs. Derives Condition before f rs) l e ts rest (rule.sum d))) h
step_sound go s (Whole (Test l)) ts e rest h =
    on_mark_cases (λ r. r ≡ Ok (e, rest) → Derives (Test l) ts e rest) ts _ _ (test_sound go s l ts e rest) (λ g. cc) h
step_sound go s (Whole Factor) ts e rest h =
    on_infix_cases (λ r. r ≡ Ok (e, rest) → Derives Factor ts e rest) ts _ _ (factor_sound go s ts e rest) (λ g. rule.primary (s (Whole Primary) ts e rest g)) h
step_sound go s (Whole Primary) ts e rest h = primary_sound go s ts e rest h

pub reads_sound : (n : ℕ) → IsSound (reads n)
unfolding reads
reads_sound zero goal ts e rest h = cc
reads_sound (suc n) goal ts e rest h = step_sound (reads n) (reads_sound n) goal ts e rest h
