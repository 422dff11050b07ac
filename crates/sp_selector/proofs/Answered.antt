-- What an answer says of a text, and what a selector takes.
use Rattle.std.proofs.Common.{◌≡◌, ◌∙◌, ℕ, List, Some, None, Result, Ok, Err, ap, refl, sym}
use Rattle.std.specs.Result.{result_err, result_ok}
use Rattle.sp_message.specs.declared.property.Property.{Property}
use Rattle.sp_selector.specs.declared.selector.SelectorError.{SelectorError}
use Rattle.sp_selector.specs.declared.selector.SelectorError.TheVariants as error
use Rattle.sp_selector.specs.Places.{IsBadAt}
use Rattle.sp_selector.specs.Selector.{IsSelector, Answers, is_true, selector_in}
use Rattle.sp_selector.specs.Takes.{is_true_for, selector_fault, takes, tree_in}
use Rattle.sp_selector.specs.Tree.{Expression}
use Rattle.sp_selector.specs.Values.{value}
use Rattle.sp_selector.proofs.Places.{place_is_bad}
use Rattle.sp_selector.proofs.Selectors.{selector_sound, selector_complete}

not_both : (r : Result Expression ℕ) (at : ℕ) (e : Expression) → r ≡ Err at → r ≡ Ok e → ⊥
not_both r at e p q = cc

-- what a refusal says of a text
pub bad_is : {A : Type 0} (view : A → Expression) (text : List ℕ) (e : SelectorError) (at : ℕ) → Answers view (Err e) (selector_in text) → e ≡ error.Bad at → selector_in text ≡ Err at
bad_is view text (error.Bad k) at h same = h ∙ ap Err (cc)
bad_is view text error.Memory at h same = absurd (cc)

pub no_tree : (text : List ℕ) (at : ℕ) (e : Expression) → selector_in text ≡ Err at → IsSelector text e → ⊥
no_tree text at e bad is = not_both (selector_in text) at e bad (selector_complete text e is)

pub bad_place : (text : List ℕ) (at : ℕ) → selector_in text ≡ Err at → IsBadAt text at
bad_place text at bad = place_is_bad text at bad

with_some : (r : Result Expression ℕ) (e : Expression) → result_ok r ≡ Some e → r ≡ Ok e
with_some (Ok f) e h = cc
with_some (Err at) e h = cc

-- the tree of a text is the one that the grammar gives it
pub tree_derived : (text : List ℕ) (e : Expression) → tree_in text ≡ Some e → IsSelector text e
unfolding tree_in
tree_derived text e h = selector_sound text e (with_some (selector_in text) e h)

pub tree_read : (text : List ℕ) (e : Expression) → IsSelector text e → tree_in text ≡ Some e
unfolding tree_in
tree_read text e is = ap result_ok (selector_complete text e is)

-- where a text has a fault it is bad, and elsewhere it is a selector
with_err : (r : Result Expression ℕ) (at : ℕ) → result_err r ≡ Some at → r ≡ Err at
with_err (Ok e) at h = cc
with_err (Err k) at h = cc

pub fault_is_bad : (text : List ℕ) (at : ℕ) → selector_fault text ≡ Some at → IsBadAt text at
unfolding selector_fault
fault_is_bad text at h = place_is_bad text at (with_err (selector_in text) at h)

pub no_fault : (text : List ℕ) → selector_fault text ≡ None → (e : Expression) × IsSelector text e
unfolding selector_fault
no_fault text h = read_as (selector_in text) refl h
  where
    read_as : (r : Result Expression ℕ) → selector_in text ≡ r → result_err r ≡ None → (e : Expression) × IsSelector text e
    read_as (Ok e) is k = (e, selector_sound text e is)
    read_as (Err at) is k = absurd (cc)

-- what an answer says of the fault
pub fault_none : (text : List ℕ) (e : Expression) → selector_in text ≡ Ok e → selector_fault text ≡ None
unfolding selector_fault
fault_none text e is = ap result_err is

pub fault_some : (text : List ℕ) (at : ℕ) → selector_in text ≡ Err at → selector_fault text ≡ Some at
unfolding selector_fault
fault_some text at is = ap result_err is

-- what a selector of that tree takes
pub takes_by_tree : (text : List ℕ) (e : Expression) (properties : List Property) → IsSelector text e → is_true (value e properties) ≡ takes text properties
takes_by_tree text e properties is = sym (ap (is_true_for properties) (tree_read text e is))
