-- How a chain goes on behind an operand.
use Rattle.std.proofs.Common.{◌≡◌, ◌∙◌, ◌-◌, ◌<◌, ℕ, Bool, true, false, cond, List, [], ◌∷◌, Some, None, Result, Ok, refl, sym, ap}
use Rattle.sp_selector.specs.declared.parse.Chain.{Chain}
use Rattle.sp_selector.specs.declared.parse.ParseError.{ParseError}
use Rattle.sp_selector.specs.declared.parse.ParseError.TheVariants as error
use Rattle.sp_selector.specs.declared.token.Token.{Token}
use Rattle.sp_selector.specs.declared.token.Token.TheVariants as token
use Rattle.sp_selector.specs.declared.tree.Operator.{Operator}
use Rattle.sp_selector.specs.Grammar.{operand_of, joins}
use Rattle.sp_selector.specs.Parser.{◌>>=◌, Reading, Goal, Whole, Chain_after, Fails, chain_step, joint, on_infix, step, reads}
use Rattle.sp_selector.specs.Tree.{Expression}
use Rattle.sp_selector.specs.Tree as tree
use Rattle.sp_selector.proofs.Steps.{reads_step}

no_joint : (chain : Chain) (e : Expression) (go : Goal → List Token → Reading Expression) (ts : List Token) → None ≡ joint chain ts → on_infix ts (chain_step go chain e ts) (Ok (e, ts)) ≡ Ok (e, ts)
no_joint chain e go [] h = refl
no_joint chain e go (token.Infix op ∷ more) h = by_test (joins chain op) (op, more) h
  where
    by_test : (b : Bool) (p : Operator × List Token) → None ≡ cond b (Some p) None → cond b (go (Whole (operand_of chain)) more >>= λ x. go (Chain_after chain (tree.Binary op e x.0)) x.1) (Ok (e, token.Infix op ∷ more)) ≡ Ok (e, token.Infix op ∷ more)
    by_test true p h = cc
    by_test false p h = refl
no_joint chain e go (token.Mark m ∷ more) h = refl
no_joint chain e go (token.Name t ∷ more) h = refl
no_joint chain e go (token.Number z ∷ more) h = refl
no_joint chain e go (token.Text t ∷ more) h = refl

one_joint : (chain : Chain) (e : Expression) (go : Goal → List Token → Reading Expression) (ts : List Token) (op : Operator) (more : List Token) → Some (op, more) ≡ joint chain ts → on_infix ts (chain_step go chain e ts) (Ok (e, ts)) ≡ (go (Whole (operand_of chain)) more >>= λ x. go (Chain_after chain (tree.Binary op e x.0)) x.1)
one_joint chain e go [] op more h = cc
one_joint chain e go (token.Infix op' ∷ more') op more h = by_test (joins chain op') (op, more) (op', more') h
  where
    by_test : (b : Bool) (p q : Operator × List Token) → Some p ≡ cond b (Some q) None → cond b (go (Whole (operand_of chain)) q.1 >>= λ x. go (Chain_after chain (tree.Binary q.0 e x.0)) x.1) (Ok (e, token.Infix op' ∷ more')) ≡ (go (Whole (operand_of chain)) p.1 >>= λ x. go (Chain_after chain (tree.Binary p.0 e x.0)) x.1)
    by_test true p q h =
        let same : p ≡ q = cc in
        let F : Operator × List Token → Reading Expression = λ r. go (Whole (operand_of chain)) r.1 >>= λ x. go (Chain_after chain (tree.Binary r.0 e x.0)) x.1 in
        ap F (sym same)
    by_test false p q h = cc
one_joint chain e go (token.Mark m ∷ more') op more h = cc
one_joint chain e go (token.Name t ∷ more') op more h = cc
one_joint chain e go (token.Number z ∷ more') op more h = cc
one_joint chain e go (token.Text t ∷ more') op more h = cc

pub chain_ends : (n : ℕ) (chain : Chain) (e : Expression) (ts : List Token) → 0 < n → None ≡ joint chain ts → reads n (Chain_after chain e) ts ≡ Ok (e, ts)
unfolding step
chain_ends n chain e ts some h = reads_step n (Chain_after chain e) ts some ∙ no_joint chain e (reads (n - 1)) ts h

pub chain_goes_on : (n : ℕ) (chain : Chain) (e : Expression) (ts : List Token) (op : Operator) (more : List Token) → 0 < n → Some (op, more) ≡ joint chain ts → reads n (Chain_after chain e) ts ≡ (reads (n - 1) (Whole (operand_of chain)) more >>= λ x. reads (n - 1) (Chain_after chain (tree.Binary op e x.0)) x.1)
unfolding step
chain_goes_on n chain e ts op more some h = reads_step n (Chain_after chain e) ts some ∙ one_joint chain e (reads (n - 1)) ts op more h

-- what fails inside fails outside
pub fails_with : {A B : Type 0} (k : ParseError) (r : Result A ℕ) (f : A → Result B ℕ) (whole : Result B ℕ) → whole ≡ (r >>= f) → Fails k r → Fails k whole
fails_with (error.Stuck n) r f whole e h = e ∙ ap (λ x. x >>= f) h
fails_with error.Memory r f whole e h = tt
