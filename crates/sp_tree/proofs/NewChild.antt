-- A new child of a node: a node behind the others that a level from there leads to.
use Rattle.std.proofs.Common.{◌≡◌, ◌∙◌, ◌+◌, ◌≤◌, ◌<◌, ℕ, suc, inl, inr, ◌⊎◌, Bool, true, false, cond, ◌&&◌, List, [], ◌∷◌, ◌++◌, length, Option, None, Some, refl, sym, ap, subst, arith, length-append}
use Rattle.std.specs.Prelude.{◌==◌, bytes_eq, slice_get, slice_set}
use Rattle.std.specs.Option.{option_map_or}
use Rattle.std.specs.Cmp.Lexicographic.{bytes_decides}
use Rattle.std.proofs.lemmas.Bool.{cond-true, cond-false, eqb-true, eq-eqb, cases_order}
use Rattle.std.proofs.lemmas.List.{length-set}
use Rattle.std.proofs.lemmas.Option.{slice_get_past}
use Rattle.sp_tree.specs.Children as kids
use Rattle.sp_tree.specs.Node.{AreTexts, child_at, endpoints_at, is_prefix}
use Rattle.sp_tree.specs.Nodes.{IsTree, by_text, endpoints_of, next, nobody}
use Rattle.sp_tree.specs.declared.node.Node.{Node}
use Rattle.sp_tree.proofs.Changes.{get_last, get_push, get_set, said, same_said, texts_at, texts_stay}
use Rattle.sp_tree.proofs.Trees.{HasChild}

pub same_all : (before after : Node) → after.here ≡ before.here → after.below ≡ before.below → (rest exception : Bool) → endpoints_at after rest exception ≡ endpoints_at before rest exception
same_all before after here below false false = ap (λ e. e.plain) here
same_all before after here below false true = ap (λ e. e.exceptions) here
same_all before after here below true false = ap (λ e. e.plain) below
same_all before after here below true true = ap (λ e. e.exceptions) below

pub same_ends : (before after : Node) → after.here ≡ before.here → after.below ≡ before.below → (rest exception : Bool) → (endpoints_at after rest exception).items ≡ (endpoints_at before rest exception).items
same_ends before after here below rest exception = ap (λ r. r.items) (same_all before after here below rest exception)

pub same_room : (before after : Node) → after.here ≡ before.here → after.below ≡ before.below → (rest exception : Bool) → (endpoints_at before rest exception).room ≤ (endpoints_at after rest exception).room
same_room before after here below rest exception = omega (arith, ap (λ r. r.room) (same_all before after here below rest exception))

pub found_child : (old new : List Node) (parent : ℕ) (level : List ℕ) → HasChild old new parent level → next new parent level ≡ Some (length old)
found_child old new parent level h =
    h.leads parent level h.inside
    ∙ (λ i. cond (eq-eqb parent parent refl i && (bytes_decides level level).1 refl i) (Some (length old)) (next old parent level))

pub with_child : (old new : List Node) → IsTree old → (parent : ℕ) (level : List ℕ) (last : ℕ) (before after fresh : Node) → parent < length old → slice_get old parent ≡ Some before → next old parent level ≡ None
    → last ≡ length old → new ≡ slice_set old parent after ++ fresh ∷ []
    → ((other : List ℕ) → child_at after other ≡ cond (bytes_eq level other) (Some last) (child_at before other)) → (AreTexts before → AreTexts after)
    → after.here ≡ before.here → after.below ≡ before.below
    → ((other : List ℕ) → child_at fresh other ≡ None) → AreTexts fresh → ((rest exception : Bool) → (endpoints_at fresh rest exception).items ≡ [])
    → HasChild old new parent level
with_child old new tree parent level last before after fresh lt was none is_last is named plain here below children texts endpoints = record {
  longer = longer;
  inside = lt;
  none = none;
  leads = leads;
  ends = λ other. ap (λ o. option_map_or (λ node. child_at node other) o None) gets_last ∙ children other;
  holds = λ rest exception at less.
      ap (λ o. option_map_or (λ node. endpoints_at node rest exception) o nobody) (gets_old at less)
      ∙ same_said old changed parent before after was gets (λ node. endpoints_at node rest exception) nobody (same_all before after here below rest exception) at;
  empty = λ rest exception. ap (λ o. (option_map_or (λ node. endpoints_at node rest exception) o nobody).items) gets_last ∙ endpoints rest exception;
  texts = text_is;
}
  where
    changed : List Node
    changed = slice_set old parent after

    gets : (n : ℕ) → slice_get changed n ≡ cond (n == parent) (Some after) (slice_get old n)
    gets = get_set old parent after lt

    longer : length new ≡ suc (length old)
    longer = let a = ap length is in let b = length-append changed (fresh ∷ []) in let d = length-set old parent after in omega (arith, a, b, d)

    gets_old : (at : ℕ) → at < length old → slice_get new at ≡ slice_get changed at
    gets_old at less = ap (λ ns. slice_get ns at) is ∙ get_push changed fresh at (omega (arith, less, length-set old parent after))

    gets_last : slice_get new (length old) ≡ Some fresh
    gets_last = ap (λ ns. slice_get ns (length old)) is ∙ ap (slice_get (changed ++ fresh ∷ [])) (sym (length-set old parent after)) ∙ get_last changed fresh

    leads : (at : ℕ) (other : List ℕ) → at < length old → next new at other ≡ cond (at == parent && bytes_eq level other) (Some (length old)) (next old at other)
    leads at other less =
        ap (λ o. option_map_or (λ node. child_at node other) o None) (gets_old at less)
        ∙ said old changed parent before after was gets (λ node. child_at node other) None at
        ∙ one (at == parent) refl
      where
        one : (b : Bool) → (at == parent) ≡ b → cond (at == parent) (child_at after other) (next old at other) ≡ cond (at == parent && bytes_eq level other) (Some (length old)) (next old at other)
        one false k =
            cond-false (at == parent) (child_at after other) (next old at other) k
            ∙ (λ i. cond (sym k i && bytes_eq level other) (Some (length old)) (next old at other))
        one true k =
            let there : next old at other ≡ child_at before other = ap (λ o. option_map_or (λ node. child_at node other) o None) (ap (slice_get old) (eqb-true at parent k) ∙ was) in
            cond-true (at == parent) (child_at after other) (next old at other) k ∙ named other
            ∙ (λ i. cond (bytes_eq level other) (Some (is_last i)) (sym there i))
            ∙ (λ i. cond (sym k i && bytes_eq level other) (Some (length old)) (next old at other))

    text_is : (at : ℕ) (text : List ℕ) (child : ℕ) → by_text new at text ≡ Some child → is_prefix text ≡ false
    text_is at text child h = one (cases_order at (length old))
      where
        one : (at ≡ length old) ⊎ ((at < length old) ⊎ (length old < at)) → is_prefix text ≡ false
        one (inl same) = texts text child (sym (ap (λ o. option_map_or (λ node. kids.child node.by_text text) o None) (ap (slice_get new) same ∙ gets_last)) ∙ h)
        one (inr (inl less)) = texts_stay old changed parent before after was gets (plain (texts_at old parent before was tree.texts)) tree.texts at text child (sym (ap (λ o. option_map_or (λ node. kids.child node.by_text text) o None) (gets_old at less)) ∙ h)
        one (inr (inr past)) = absurd (let none = ap (λ o. option_map_or (λ node. kids.child node.by_text text) o None) (slice_get_past new at (omega (arith, past, longer))) in let both = sym none ∙ h in cc)
