-- The keys of a map are the names of an object's fields.
use Rattle.std.proofs.Common.{◌≡◌, Bool, not, ◌||◌, List, [], ◌∷◌, map, String, string_bytes, Some, refl, ap}
use Rattle.std.specs.List.{list_any}
use Rattle.std.specs.declared.alloc.Global.{Global}
use Rattle.serde_json.specs.declared.value.Value.{Value}
use Rattle.serde_json.specs.Data.{Data, null, boolean, number, string, array, object, Members}
use Rattle.serde_json.specs.Find.{as_object}
use Rattle.serde_json.specs.View.{members_view}
use Rattle.sp_json.specs.Names.{FieldsOf, has_field, another_member, another_field}

pub another-keys : (fields : FieldsOf) (ms : List (String Global × Value))
    → list_any (λ key. not (has_field fields (string_bytes key))) (map (λ m. m.0) ms)
    ≡ another_member fields (members_view ms)
another-keys fields [] = refl
another-keys fields (m ∷ ms) =
    ap (λ (b : Bool). not (has_field fields (string_bytes m.0)) || b) (another-keys fields ms)

pub another-object : (fields : FieldsOf) (d : Data) (ms : Members) → Some ms ≡ as_object d
    → another_member fields ms ≡ another_field fields d
another-object fields null ms e = absurd (cc)
another-object fields (boolean b) ms e = absurd (cc)
another-object fields (number n) ms e = absurd (cc)
another-object fields (string s) ms e = absurd (cc)
another-object fields (array ds) ms e = absurd (cc)
another-object fields (object os) ms e = let same : ms ≡ os = cc in ap (another_member fields) same
