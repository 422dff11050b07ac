-- Properties are read back as they are shown.
use Rattle.std.proofs.Common.{◌≡◌, ◌∙◌, ◌++◌, ◌+◌, ◌<◌, ◌^◌, ◌-◌, ℕ, zero, suc, length, drop, get_or, true, List, []}
use Rattle.std.proofs.Common.{◌∷◌, Option, Some, None, refl, sym, ap, arith, append_assoc}
use Rattle.std.specs.Prelude.{◌≤◌, ◌*◌, nat_le, nat_lt, pos, negsuc, unsigned_abs}
use Rattle.std.specs.List.{list_all}
use Rattle.std.specs.Ordering.{nat_cmp, is_lt, match_ordering}
use Rattle.std.specs.declared.cmp.Ordering.{Ordering}
use Rattle.std.specs.declared.cmp.Ordering.TheVariants.{Less, Equal, Greater}
use Rattle.std.specs.Cmp.Lexicographic.{slice_cmp}
use Rattle.std.proofs.lemmas.List.{drop_more}
use Rattle.std.specs.Option.{option_and_then, option_map}
use Rattle.std.proofs.lemmas.Bool.{cond-true}
use Rattle.std.proofs.lemmas.Bool.Decides.{nat_tests}
use Rattle.serde_json.specs.Data.{Data, object, Members, member, put}
use Rattle.sp_message.proofs.Digits.{split_and}
use Rattle.sp_message.proofs.FixedTexts.{fixed_back}
use Rattle.sp_message.specs.Property.{kept, are_properties, comes_before, is_name_byte, is_property, names_rise}
use Rattle.sp_message.specs.Value.{is_in_range}
use Rattle.sp_message.specs.declared.property.Property.{Property}
use Rattle.sp_message.specs.declared.value.Value.{Value}
use Rattle.sp_message.specs.declared.value.Value.TheVariants as values
use Rattle.sp_json.specs.Properties.{followed, properties_from, properties_members, rows_from, value_data, value_from}

-- the rows so far, before those that are read next
abbrev pub after : List Property → Option (List Property) → Option (List Property)
after rows rest = option_map (λ (more : List Property). rows ++ more) rest

-- one row more
pub row_added : (rows : List Property) (name : List ℕ) (value : Value) (rest : Option (List Property)) →
    after rows (followed name rest value) ≡ after (rows ++ record { name = name; value = value } ∷ []) rest
row_added rows name value None = refl
row_added rows name value (Some ps) =
    ap (λ (qs : List Property). Some qs) (sym (append_assoc rows (record { name = name; value = value } ∷ []) ps))

-- a member whose value is one
pub member_some : (name : List ℕ) (d : Data) (ms : Members) (value : Value) → value_from d ≡ Some value →
    rows_from (member name d ms) ≡ followed name (rows_from ms) value
member_some name d ms value is = ap (option_and_then (followed name (rows_from ms))) is

-- what was read with it
pub row_read : (rows more : List Property) (name : List ℕ) (d : Data) (ms : Members) (value : Value)
    (all : Option (List Property)) →
    after rows (rows_from (member name d ms)) ≡ all → value_from d ≡ Some value
    → more ≡ rows ++ record { name = name; value = value } ∷ [] →
    after more (rows_from ms) ≡ all
row_read rows more name d ms value all so_far is next =
    ap (λ (r : List Property). after r (rows_from ms)) next
    ∙ (sym (row_added rows name value (rows_from ms))
    ∙ (ap (after rows) (sym (member_some name d ms value is)) ∙ so_far))

-- ---- properties that are put under their names, from the last to the first

first_placed : {A : Type 0} (o : Ordering) (a b c : A) → is_lt o ≡ true → match_ordering o a b c ≡ a
first_placed Less a b c h = refl
first_placed Equal a b c h = absurd (cc)
first_placed Greater a b c h = absurd (cc)

put_first : (p : Property) (rest : List Property) → names_rise (p ∷ rest) ≡ true →
    put p.name (value_data p.value) (properties_members rest) ≡ properties_members (p ∷ rest)
put_first p [] h = refl
put_first p (q ∷ qs) h =
    first_placed (slice_cmp nat_cmp p.name q.name) _ _ _ (split_and (comes_before p q) (names_rise (q ∷ qs)) h).0

rise_from : (i : ℕ) (rows : List Property) → names_rise rows ≡ true → names_rise (drop i rows) ≡ true
rise_from zero rows h = h
rise_from (suc i) [] h = refl
rise_from (suc i) (p ∷ []) h = rise_from i [] refl
rise_from (suc i) (p ∷ q ∷ qs) h = rise_from i (q ∷ qs) (split_and (comes_before p q) (names_rise (q ∷ qs)) h).1

pub put_next : (rows : List Property) (i : ℕ) (d : Property) → i < length rows → are_properties rows ≡ true →
    put (get_or rows i d).name (value_data (get_or rows i d).value) (properties_members (drop (i + 1) rows))
    ≡ properties_members (drop i rows)
put_next rows i d lt h =
    let rise : names_rise rows ≡ true = (split_and _ (names_rise rows) h).1 in
    let more : drop i rows ≡ get_or rows i d ∷ drop (i + 1) rows = drop_more rows i d lt in
    put_first (get_or rows i d) (drop (i + 1) rows) (sym (ap names_rise more) ∙ rise_from i rows rise)
    ∙ ap properties_members (sym more)

-- a value that keeps its rule is read back
value_back : (v : Value) → is_in_range v ≡ true → value_from (value_data v) ≡ Some v
value_back (values.Whole (pos n)) h = ap (option_map values.Whole) (cond-true _ _ _ (below n h))
  where
    below : (m : ℕ) → nat_le m (2 ^ 63 - 1) ≡ true → nat_lt m (2 ^ 63) ≡ true
    below m few = grind (arith, nat_tests)
value_back (values.Whole (negsuc n)) h = refl
value_back (values.Fixed z) h = ap (option_map values.Fixed) (fixed_back z (at_most (unsigned_abs z) h))
  where
    at_most : (m : ℕ) → nat_le m ((2 ^ 63 - 1) * 1000000) ≡ true → m ≤ (2 ^ 63 - 1) * 1000000
    at_most m few = grind (arith, nat_tests)
value_back (values.Text text) h = refl
value_back (values.Bool truth) h = refl

-- each of them
rows_back : (ps : List Property) → list_all is_property ps ≡ true → rows_from (properties_members ps) ≡ Some ps
rows_back [] h = refl
rows_back (p ∷ ps) h =
    let both = split_and (is_property p) (list_all is_property ps) h in
    let range : is_in_range p.value ≡ true = third both.0 in
    member_some p.name (value_data p.value) (properties_members ps) p.value (value_back p.value range)
    ∙ ap (λ (rest : Option (List Property)). followed p.name rest p.value) (rows_back ps both.1)
  where
    third : is_property p ≡ true → is_in_range p.value ≡ true
    third is = (split_and _ (is_in_range p.value) (split_and _ (list_all is_name_byte p.name) is).0).1

pub properties_back : (ps : List Property) → are_properties ps ≡ true
    → properties_from (object (properties_members ps)) ≡ Some ps
properties_back ps h =
    let rules = split_and _ _ (split_and _ _ h).0 in
    ap (option_and_then kept) (rows_back ps rules.1) ∙ cond-true _ _ _ h
