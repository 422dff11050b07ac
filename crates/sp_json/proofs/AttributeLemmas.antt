-- The settings that attributes give are settings: each once, in order, and in its range.
use Rattle.std.proofs.Common.{◌≡◌, ◌∙◌, ℕ, ◌+◌, ◌<◌, ◌++◌, length, get_or, take, ap, sym, Bool, true, false, List, []}
use Rattle.std.proofs.Common.{◌∷◌, Option, Some, None, refl, subst}
use Rattle.std.specs.Prelude.{◌&&◌, if◌then◌else◌}
use Rattle.std.specs.List.{list_all, filter_map, cons_option}
use Rattle.std.specs.Option.{option_and_then}
use Rattle.std.proofs.lemmas.List.{take_more}
use Rattle.std.proofs.lemmas.List.Elements.{filter_map-append}
use Rattle.serde_json.specs.Data.{Data}
use Rattle.serde_json.specs.Find.{get}
use Rattle.sp_config.specs.declared.attr.Attr.{Attr}
use Rattle.sp_config.specs.declared.kind.EndpointKind.{EndpointKind}
use Rattle.sp_config.specs.declared.kind.EndpointKind.TheVariants.{Queue, TopicEndpoint}
use Rattle.sp_config.specs.declared.setting.Setting.{Setting}
use Rattle.sp_config.specs.declared.value.AttrValue.{AttrValue}
use Rattle.sp_config.specs.Names.{all_attrs, name_of}
use Rattle.sp_config.specs.Ranges.{is_in_range}
use Rattle.sp_config.specs.Settings.{are_settings, is_allowed}
use Rattle.sp_config.proofs.Settled.{few}
use Rattle.sp_json.specs.Attributes.{allowed, setting_from, settings_of}

-- one item more, and what it gives
pub filter_map_more : {X Y : Type 0} (f : X → Option Y) (xs : List X) (i : ℕ) (d : X) (rows after : List Y)
    (found : Option Y) → i < length xs
    → rows ≡ filter_map f (take i xs) → found ≡ f (get_or xs i d) → after ≡ rows ++ cons_option found []
    → after ≡ filter_map f (take (i + 1) xs)
filter_map_more f xs i d rows after found less so_far here e =
    let last = ap (filter_map f) (take_more xs i d less) ∙ filter_map-append f (take i xs) (get_or xs i d ∷ []) in
    e ∙ rw (so_far, here) (sym last)

first : (a b : Bool) → (a && b) ≡ true → a ≡ true
first true b h = refl
first false b h = h

in_range : (kind : EndpointKind) (a : Attr) (v : AttrValue) → is_allowed kind a v ≡ true → is_in_range a v ≡ true
in_range Queue a v h = h
in_range TopicEndpoint a v h = first (is_in_range a v) _ h

-- the setting of this attribute, with a value in its range
IsOf : Attr → Setting → Type 0
IsOf a s = (s.attr ≡ a) × (is_in_range s.attr s.value ≡ true)

allowed_is : (kind : EndpointKind) (a : Attr) (v : AttrValue) (s : Setting) (b : Bool) → is_allowed kind a v ≡ b
    → (if b then Some (record { attr = a; value = v }) else None) ≡ Some s → IsOf a s
unfolding IsOf
allowed_is kind a v s true h e =
    let same : record { attr = a; value = v } ≡ s = cc in
    subst (λ (t : Setting). (t.attr ≡ a) × (is_in_range t.attr t.value ≡ true)) same (refl, in_range kind a v h)
allowed_is kind a v s false h e = absurd (cc)

value_is : (kind : EndpointKind) (a : Attr) (s : Setting) (v : Option AttrValue)
    → option_and_then (allowed kind a) v ≡ Some s → IsOf a s
value_is kind a s None e = absurd (cc)
value_is kind a s (Some v) e = allowed_is kind a v s (is_allowed kind a v) refl e

member_is : (kind : EndpointKind) (a : Attr) (s : Setting) (d : Option Data)
    → option_and_then (setting_from kind a) d ≡ Some s → IsOf a s
member_is kind a s None e = absurd (cc)
member_is kind a s (Some d) e = value_is kind a s _ e

module _ (f : Attr → Option Setting) (is_of : (a : Attr) (s : Setting) → f a ≡ Some s → IsOf a s) where
  one_more : (a : Attr) (rest : List Setting) (found : Option Setting) → f a ≡ found
      → list_all (λ (s : Setting). is_in_range s.attr s.value) rest ≡ true
      → list_all (λ (s : Setting). is_in_range s.attr s.value) (cons_option found rest) ≡ true
  unfolding IsOf
  one_more a rest None e h = h
  one_more a rest (Some s) e h = rw (is_of a s e).1 h

  all_in_range : (attrs : List Attr)
      → list_all (λ (s : Setting). is_in_range s.attr s.value) (filter_map f attrs) ≡ true
  all_in_range [] = refl
  all_in_range (a ∷ attrs) = one_more a (filter_map f attrs) (f a) refl (all_in_range attrs)

-- they are settings
pub given_are_settings : (kind : EndpointKind) (d : Data) → are_settings (settings_of kind d) ≡ true
unfolding IsOf
given_are_settings kind d =
    let f : Attr → Option Setting = λ a. option_and_then (setting_from kind a) (get (name_of a) d) in
    let is_of : (a : Attr) (s : Setting) → f a ≡ Some s → IsOf a s =
    λ a s e. member_is kind a s (get (name_of a) d) e in
    rw (all_in_range f is_of all_attrs) (few f (λ a s e. (is_of a s e).0))
