-- Which fields an object may have.
use Rattle.std.specs.Prelude.{ℕ, List, [], ◌∷◌, map, Bool, true, false, not, ◌||◌, ◌&&◌, bytes_eq}
use Rattle.std.specs.Borrow.{Bor}
use Rattle.std.specs.List.{list_all, list_any}
use Rattle.serde_json.specs.Data.{Data, null, boolean, number, string, array, object, Members, no_members, member}
use Rattle.sp_json.specs.Fields.{has_key}

-- the fields that have to be there, those of which one has to be there, and those that may be
pub record FieldsOf : Type 0 where
  pub required : List (List ℕ)
  pub one_of : List (List ℕ)
  pub optional : List (List ℕ)

-- the texts that references lend
abbrev pub texts : List (Bor (List ℕ)) → List (List ℕ)
texts names = map (λ name. name.now) names

-- whether a field of this name may be there
abbrev pub is_among : List (List ℕ) → List ℕ → Bool
is_among names key = list_any (λ name. bytes_eq name key) names

abbrev pub has_field : FieldsOf → List ℕ → Bool
has_field fields key = is_among fields.required key || (is_among fields.one_of key || is_among fields.optional key)

-- whether one of these fields is there, if there are any
abbrev pub has_one_of : List (List ℕ) → Data → Bool
has_one_of [] d = true
has_one_of (name ∷ names) d = list_any (λ name. has_key name d) (name ∷ names)

-- whether the fields that have to be there are there
abbrev pub has_required : FieldsOf → Data → Bool
has_required fields d = list_all (λ name. has_key name d) fields.required && has_one_of fields.one_of d

-- whether there is a field that may not be there
abbrev pub another_member : FieldsOf → Members → Bool
another_member fields no_members = false
another_member fields (member key d ms) = not (has_field fields key) || another_member fields ms

abbrev pub another_field : FieldsOf → Data → Bool
another_field fields null = false
another_field fields (boolean b) = false
another_field fields (number n) = false
another_field fields (string s) = false
another_field fields (array ds) = false
another_field fields (object ms) = another_member fields ms
