-- What stands in members, as a truth value, a number, a text, members or a list.
use Rattle.std.specs.Prelude.{ℕ, Bool, false, List, [], ◌∷◌, is_some}
use Rattle.std.specs.Option.{option_and_then, unwrap_or}
use Rattle.serde_json.specs.Data.{Data, Items, no_items, item, Members, no_members}
use Rattle.serde_json.specs.Find.{get_member, as_bool, as_str, as_number, as_u64, as_object, as_array}

abbrev pub has : List ℕ → Members → Bool
has key ms = is_some (get_member key ms)

abbrev pub truth : List ℕ → Members → Bool
truth key ms = unwrap_or (option_and_then as_bool (get_member key ms)) false

abbrev pub num : List ℕ → Members → ℕ
num key ms = unwrap_or (option_and_then as_u64 (option_and_then as_number (get_member key ms))) 0

abbrev pub text : List ℕ → Members → List ℕ
text key ms = unwrap_or (option_and_then as_str (get_member key ms)) []

abbrev pub fields : Data → Members
fields d = unwrap_or (as_object d) no_members

abbrev pub inner : List ℕ → Members → Members
inner key ms = unwrap_or (option_and_then as_object (get_member key ms)) no_members

abbrev pub list_of : Items → List Data
list_of no_items = []
list_of (item d ds) = d ∷ list_of ds

abbrev pub many : List ℕ → Members → List Data
many key ms = list_of (unwrap_or (option_and_then as_array (get_member key ms)) no_items)
