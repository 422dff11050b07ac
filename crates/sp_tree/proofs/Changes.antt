-- What a change of one node, or one node more, does to the nodes.
use Rattle.std.proofs.Common.{◌≡◌, ◌∙◌, ◌+◌, ◌≤◌, ◌<◌, ℕ, zero, suc, inl, inr, ◌⊎◌, Bool, true, false, cond, ◌&&◌, List, [], ◌∷◌, ◌++◌, length, Option, None, Some, refl, sym, ap, subst, arith, Bor}
use Rattle.std.specs.Prelude.{◌==◌, bytes_eq, slice_get, slice_index_or, slice_set, if◌then◌else◌, IfSome}
use Rattle.std.specs.Option.{option_map_or}
use Rattle.std.proofs.lemmas.Bool.{cond-true, cond-false, eqb-true, eq-eqb, ne_eqb, cases_eq}
use Rattle.std.proofs.lemmas.Option.{slice_get_past, slice_get_read}
use Rattle.sp_base.specs.Topic.{levels}
use Rattle.sp_topic.specs.Matching.{is_rest}
use Rattle.sp_tree.specs.Children as children
use Rattle.sp_tree.specs.Node.{AreTexts, child_at, endpoints_at, is_prefix}
use Rattle.sp_tree.specs.Nodes.{IsTree, by_text, endpoints_of, next, nobody, place}
use Rattle.sp_tree.specs.Path.{steps}
use Rattle.sp_tree.specs.declared.node.Node.{Node}
use Rattle.sp_tree.proofs.Trees.{HasChild}

get_at_set : {X : Type 0} (xs : List X) (i : ℕ) (x : X) → i < length xs → slice_get (slice_set xs i x) i ≡ Some x
get_at_set [] i x lt = absurd (omega (arith, lt))
get_at_set (y ∷ ys) zero x lt = refl
get_at_set (y ∷ ys) (suc i) x lt = get_at_set ys i x (omega (arith, lt))

get_else_set : {X : Type 0} (xs : List X) (i n : ℕ) (x : X) → (n ≡ i → ⊥) → slice_get (slice_set xs i x) n ≡ slice_get xs n
get_else_set [] i n x other = refl
get_else_set (y ∷ ys) zero zero x other = absurd (other refl)
get_else_set (y ∷ ys) zero (suc n) x other = refl
get_else_set (y ∷ ys) (suc i) zero x other = refl
get_else_set (y ∷ ys) (suc i) (suc n) x other = get_else_set ys i n x (λ same. other (ap suc same))

pub get_set : {X : Type 0} (xs : List X) (i : ℕ) (x : X) → i < length xs → (n : ℕ) → slice_get (slice_set xs i x) n ≡ cond (n == i) (Some x) (slice_get xs n)
get_set xs i x lt n =
    elim (cases_eq n i) [
      | inl same ↦ ap (slice_get (slice_set xs i x)) same ∙ get_at_set xs i x lt ∙ sym (cond-true (n == i) (Some x) (slice_get xs n) (eq-eqb n i same))
      | inr other ↦ get_else_set xs i n x other ∙ sym (cond-false (n == i) (Some x) (slice_get xs n) (ne_eqb n i other))
    ]

pub get_push : {X : Type 0} (xs : List X) (x : X) (n : ℕ) → n < length xs → slice_get (xs ++ x ∷ []) n ≡ slice_get xs n
get_push [] x n lt = absurd (omega (arith, lt))
get_push (y ∷ ys) x zero lt = refl
get_push (y ∷ ys) x (suc n) lt = get_push ys x n (omega (arith, lt))

pub get_last : {X : Type 0} (xs : List X) (x : X) → slice_get (xs ++ x ∷ []) (length xs) ≡ Some x
get_last [] x = refl
get_last (y ∷ ys) x = get_last ys x

-- one node stands for another
module _ (old new : List Node) (at : ℕ) (before after : Node)
    (was : slice_get old at ≡ Some before)
    (gets : (n : ℕ) → slice_get new n ≡ cond (n == at) (Some after) (slice_get old n)) where
  -- what is said of each node, and is said of both alike
  pub same_said : {X : Type 0} (say : Node → X) (none : X) → say after ≡ say before → (n : ℕ) → option_map_or say (slice_get new n) none ≡ option_map_or say (slice_get old n) none
  same_said say none alike n = one (n == at) refl
    where
      one : (b : Bool) → (n == at) ≡ b → option_map_or say (slice_get new n) none ≡ option_map_or say (slice_get old n) none
      one true is =
          ap (λ o. option_map_or say o none) (gets n ∙ cond-true (n == at) (Some after) (slice_get old n) is)
          ∙ alike ∙ ap (λ o. option_map_or say o none) (sym was) ∙ ap (λ k. option_map_or say (slice_get old k) none) (sym (eqb-true n at is))
      one false is = ap (λ o. option_map_or say o none) (gets n ∙ cond-false (n == at) (Some after) (slice_get old n) is)

  -- what is said of the node that changed, and of the others
  pub said : {X : Type 0} (say : Node → X) (none : X) (n : ℕ) → option_map_or say (slice_get new n) none ≡ cond (n == at) (say after) (option_map_or say (slice_get old n) none)
  said say none n = one (n == at) refl
    where
      one : (b : Bool) → (n == at) ≡ b → option_map_or say (slice_get new n) none ≡ cond (n == at) (say after) (option_map_or say (slice_get old n) none)
      one true is =
          ap (λ o. option_map_or say o none) (gets n ∙ cond-true (n == at) (Some after) (slice_get old n) is)
          ∙ sym (cond-true (n == at) (say after) (option_map_or say (slice_get old n) none) is)
      one false is =
          ap (λ o. option_map_or say o none) (gets n ∙ cond-false (n == at) (Some after) (slice_get old n) is)
          ∙ sym (cond-false (n == at) (say after) (option_map_or say (slice_get old n) none) is)

  -- texts without `*` stay texts without
  pub texts_stay : AreTexts after → ((n : ℕ) (text : List ℕ) (child : ℕ) → by_text old n text ≡ Some child → is_prefix text ≡ false) → (n : ℕ) (text : List ℕ) (child : ℕ) → by_text new n text ≡ Some child → is_prefix text ≡ false
  texts_stay plain texts n text child h = one (n == at) refl
    where
      one : (b : Bool) → (n == at) ≡ b → is_prefix text ≡ false
      one true is = plain text child (sym (ap (λ o. option_map_or (λ node. children.child node.by_text text) o None) (gets n ∙ cond-true (n == at) (Some after) (slice_get old n) is)) ∙ h)
      one false is = texts n text child (sym (ap (λ o. option_map_or (λ node. children.child node.by_text text) o None) (gets n ∙ cond-false (n == at) (Some after) (slice_get old n) is)) ∙ h)

pub texts_at : (nodes : List Node) (at : ℕ) (node : Node) → slice_get nodes at ≡ Some node → ((n : ℕ) (text : List ℕ) (child : ℕ) → by_text nodes n text ≡ Some child → is_prefix text ≡ false) → AreTexts node
texts_at nodes at node is texts text child h = texts at text child (ap (λ o. option_map_or (λ node. children.child node.by_text text) o None) is ∙ h)

-- a node that was read at its place
pub read : (inside now : List Node) (at : ℕ) (node : Node) → inside ≡ now → at < length now → node ≡ slice_index_or inside at node → slice_get now at ≡ Some node
read inside now at node same lt is = slice_get_read now (length now) at node refl lt (is ∙ ap (λ ns. slice_index_or ns at node) same)

pub next_read : (nodes : List Node) (at : ℕ) (node : Node) (level : List ℕ) → slice_get nodes at ≡ Some node → next nodes at level ≡ child_at node level
next_read nodes at node level is = ap (λ o. option_map_or (λ node. child_at node level) o None) is

pub child_inside : (nodes : List Node) (tree : IsTree nodes) (at : ℕ) (level : List ℕ) (o : Option ℕ) → o ≡ next nodes at level → IfSome o (λ child. child < length nodes)
child_inside nodes tree at level None is = tt
child_inside nodes tree at level (Some child) is = (tree.ways at level child (sym is)).0

pub place_end : (nodes : List Node) (o : Option ℕ) → place nodes o [] ≡ o
place_end nodes None = refl
place_end nodes (Some at) = refl

-- one step of a way
abbrev pub Rest : Option (Bor (List ℕ)) → List (List ℕ)
Rest rest = option_map_or (λ r. levels r.now) rest []

pub follow_on : (nodes : List Node) (from : Option ℕ) (at : ℕ) (ls : List (List ℕ)) (level : List ℕ) (rest : Option (Bor (List ℕ))) → from ≡ Some at → ls ≡ level ∷ Rest rest → is_rest (level ∷ Rest rest) ≡ false → place nodes from (steps ls) ≡ place nodes (next nodes at level) (steps (Rest rest))
follow_on nodes from at ls level rest is spelled more =
    (λ i. place nodes (is i) (steps (spelled i)))
    ∙ ap (place nodes (Some at)) (cond-false (is_rest (level ∷ Rest rest)) [] (level ∷ steps (Rest rest)) more)
