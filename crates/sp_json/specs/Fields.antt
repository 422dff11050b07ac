-- The fields of a JSON object, and the values that they give.
use Rattle.std.specs.Prelude.{ℕ, List, Bool, ◌&&◌, Option, Some, None, is_some, option_map, option_and_then}
use Rattle.std.specs.Prelude.{if◌then◌else◌, nat_le}
use Rattle.serde_json.specs.Data.{Data}
use Rattle.serde_json.specs.Find.{get, as_bool, as_str, as_number, as_u64}
use Rattle.sp_base.specs.Choice.{choice_named}
use Rattle.sp_base.specs.Name.{is_name}

-- whether there is a field of this name
abbrev pub has_key : List ℕ → Data → Bool
has_key key d = is_some (get key d)

-- the text in a field
abbrev pub text_at : List ℕ → Data → Option (List ℕ)
text_at key d = option_and_then as_str (get key d)

-- the text in a field that may be absent
abbrev pub optional_text_at : List ℕ → Data → Option (Option (List ℕ))
optional_text_at key d = if has_key key d then option_map Some (text_at key d) else Some None

-- the choice that a field names, and the one where it may be absent
abbrev pub choice_at : {C : Type 0} → (C → List ℕ) → List C → List ℕ → Data → Option C
choice_at word_of choices key d = option_and_then (choice_named word_of choices) (text_at key d)

abbrev pub choice_or : {C : Type 0} → (C → List ℕ) → List C → C → List ℕ → Data → Option C
choice_or word_of choices absent key d = if has_key key d then choice_at word_of choices key d else Some absent

abbrev pub name_from : List ℕ → Option (List ℕ)
name_from text = if is_name text then Some text else None

-- the name in a field, and in one that may be absent
abbrev pub name_at : List ℕ → Data → Option (List ℕ)
name_at key d = option_and_then name_from (text_at key d)

abbrev pub optional_name_at : List ℕ → Data → Option (Option (List ℕ))
optional_name_at key d = if has_key key d then option_map Some (name_at key d) else Some None

-- the truth value in a field, and in one that may be absent
abbrev pub flag_at : List ℕ → Data → Option Bool
flag_at key d = option_and_then as_bool (get key d)

abbrev pub flag_or : Bool → List ℕ → Data → Option Bool
flag_or absent key d = if has_key key d then flag_at key d else Some absent

-- the whole number in a field; one with a point or an exponent, a negative one and one of more than 64 bits is none
abbrev pub whole_at : List ℕ → Data → Option ℕ
whole_at key d = option_and_then as_u64 (option_and_then as_number (get key d))

-- a number from a least to a greatest
abbrev pub within : ℕ → ℕ → ℕ → Option ℕ
within least greatest n = if nat_le least n && nat_le n greatest then Some n else None

-- the number of a range in a field, and in one that may be absent, with another number for it and without one
abbrev pub ranged_at : ℕ → ℕ → List ℕ → Data → Option ℕ
ranged_at least greatest key d = option_and_then (within least greatest) (whole_at key d)

abbrev pub ranged_or : ℕ → ℕ → ℕ → List ℕ → Data → Option ℕ
ranged_or least greatest absent key d = if has_key key d then ranged_at least greatest key d else Some absent

abbrev pub optional_ranged_at : ℕ → ℕ → List ℕ → Data → Option (Option ℕ)
optional_ranged_at least greatest key d =
    if has_key key d then option_map Some (ranged_at least greatest key d) else Some None
