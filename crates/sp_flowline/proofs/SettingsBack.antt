-- Each value that is written for an attribute is read back, and so are settings.
use Rattle.std.proofs.Common.{◌≡◌, ◌∙◌, ◌<◌, ℕ, zero, suc, Bool, true, false, cond, List, [], ◌∷◌, Option, Some, None}
use Rattle.std.proofs.Common.{Ok, refl, ap, ap₂, subst, arith}
use Rattle.std.specs.Prelude.{◌==◌, ◌&&◌, is_some, if◌then◌else◌}
use Rattle.std.specs.List.{filter_map, cons_option, list_all}
use Rattle.std.specs.Option.{option_map, option_and_then}
use Rattle.std.proofs.lemmas.Bool.{cond-true, ltb-true}
use Rattle.serde_json.specs.Data.{object}
use Rattle.serde_json.specs.Find.{get}
use Rattle.sp_base.specs.declared.refusal.Refusal.TheVariants.{BadAttribute}
use Rattle.sp_base.specs.Name.{is_name}
use Rattle.sp_config.specs.declared.attr.Attr.{Attr}
use Rattle.sp_config.specs.declared.attr.Attr.TheVariants as attr
use Rattle.sp_config.specs.declared.kind.EndpointKind.{EndpointKind}
use Rattle.sp_config.specs.declared.kind.EndpointKind.TheVariants.{Queue, TopicEndpoint}
use Rattle.sp_config.specs.declared.range.Range.{Range}
use Rattle.sp_config.specs.declared.range.Range.TheVariants.{Between, TrueOrFalse, OneOf, SomeName, NameOrEmpty}
use Rattle.sp_config.specs.declared.setting.Setting.{Setting}
use Rattle.sp_config.specs.declared.value.AttrValue.{AttrValue}
use Rattle.sp_config.specs.declared.value.AttrValue.TheVariants.{Whole, Flag, Word, Text}
use Rattle.sp_config.specs.Choices.{word_place}
use Rattle.sp_config.specs.Names.{name_of, all_attrs}
use Rattle.sp_config.specs.Ranges.{range_of, is_within, is_in_range}
use Rattle.sp_config.specs.Settings.{is_allowed, number_of}
use Rattle.sp_json.specs.Attributes.{value_of, allowed, setting_from, setting_named, bad_key, settings_of}
use Rattle.sp_json.specs.Attributes.{settings_from}
use Rattle.sp_json.specs.Fields.{name_from}
use Rattle.sp_base.specs.Parts.{unless}
use Rattle.sp_flowline.specs.Written.{word_at, value_data, settings_members, is_named, MayHave}
use Rattle.sp_flowline.proofs.SettingsPicked.{both, was_same, by_name, one_number, picked, found, all_picked}

pub name_back : (name : List ℕ) → is_name name ≡ true → name_from name ≡ Some name
name_back name h = cond-true _ _ _ h

-- each word of an attribute leads back to its place
abbrev WordsBack : Attr → Range → Type 0
WordsBack a (OneOf words) = (place : ℕ) → place < words → word_place a (word_at a place) ≡ Some place
WordsBack a range = Unit {0}

accesses : (place : ℕ) → place < 2 → word_place attr.AccessType (word_at attr.AccessType place) ≡ Some place
accesses zero h = refl
accesses (suc zero) h = refl
accesses (suc (suc n)) h = absurd (omega arith)

behaviors : (place : ℕ) → place < 3
    → word_place attr.RejectMsgToSenderOnDiscardBehavior (word_at attr.RejectMsgToSenderOnDiscardBehavior place)
    ≡ Some place
behaviors zero h = refl
behaviors (suc zero) h = refl
behaviors (suc (suc zero)) h = refl
behaviors (suc (suc (suc n))) h = absurd (omega arith)

permissions : (place : ℕ) → place < 5 → word_place attr.Permission (word_at attr.Permission place) ≡ Some place
permissions zero h = refl
permissions (suc zero) h = refl
permissions (suc (suc zero)) h = refl
permissions (suc (suc (suc zero))) h = refl
permissions (suc (suc (suc (suc zero)))) h = refl
permissions (suc (suc (suc (suc (suc n))))) h = absurd (omega arith)

words_back : (a : Attr) → WordsBack a (range_of a)
words_back attr.AccessType = accesses
words_back attr.DeadMsgQueue = tt
words_back attr.EgressEnabled = tt
words_back attr.IngressEnabled = tt
words_back attr.MaxBindCount = tt
words_back attr.MaxDeliveredUnackedMsgsPerFlow = tt
words_back attr.MaxMsgSize = tt
words_back attr.MaxMsgSpoolUsage = tt
words_back attr.MaxRedeliveryCount = tt
words_back attr.MaxTtl = tt
words_back attr.Owner = tt
words_back attr.PartitionCount = tt
words_back attr.Permission = permissions
words_back attr.RejectMsgToSenderOnDiscardBehavior = behaviors
words_back attr.RespectTtlEnabled = tt

value_back : (a : Attr) (r : Range) (v : AttrValue) → WordsBack a r → is_within r v ≡ true → is_named v ≡ true
    → value_of a r (value_data a v) ≡ Some v
value_back a (Between least most) (Whole n) w h k = refl
value_back a (Between least most) (Flag b) w h k = absurd (cc)
value_back a (Between least most) (Word place) w h k = absurd (cc)
value_back a (Between least most) (Text name) w h k = absurd (cc)
value_back a TrueOrFalse (Whole n) w h k = absurd (cc)
value_back a TrueOrFalse (Flag b) w h k = refl
value_back a TrueOrFalse (Word place) w h k = absurd (cc)
value_back a TrueOrFalse (Text name) w h k = absurd (cc)
value_back a (OneOf words) (Whole n) w h k = absurd (cc)
value_back a (OneOf words) (Flag b) w h k = absurd (cc)
value_back a (OneOf words) (Word place) w h k = ap (option_map Word) (w place (ltb-true place words h))
value_back a (OneOf words) (Text name) w h k = absurd (cc)
value_back a SomeName (Whole n) w h k = absurd (cc)
value_back a SomeName (Flag b) w h k = absurd (cc)
value_back a SomeName (Word place) w h k = absurd (cc)
value_back a SomeName (Text None) w h k = absurd (cc)
value_back a SomeName (Text (Some name)) w h k = ap (option_map (λ (n : List ℕ). Text (Some n))) (name_back name k)
value_back a NameOrEmpty (Whole n) w h k = absurd (cc)
value_back a NameOrEmpty (Flag b) w h k = absurd (cc)
value_back a NameOrEmpty (Word place) w h k = absurd (cc)
value_back a NameOrEmpty (Text None) w h k = refl
value_back a NameOrEmpty (Text (Some [])) w h k = absurd (cc)
value_back a NameOrEmpty (Text (Some (b ∷ t))) w h k =
    ap (λ (n : Option (List ℕ)). option_map Text (option_map Some n)) (name_back (b ∷ t) k)

in_range : (kind : EndpointKind) (a : Attr) (v : AttrValue) → is_allowed kind a v ≡ true → is_in_range a v ≡ true
in_range Queue a v h = h
in_range TopicEndpoint a v h = (both (is_in_range a v) _ h).0

may_have : EndpointKind → Setting → Bool
may_have kind s = is_allowed kind s.attr s.value && is_named s.value

setting_back : (kind : EndpointKind) (s : Setting) → may_have kind s ≡ true
    → setting_from kind s.attr (value_data s.attr s.value) ≡ Some s
unfolding may_have
setting_back kind s h =
    let parts = both (is_allowed kind s.attr s.value) (is_named s.value) h in
    ap (option_and_then (allowed kind s.attr))
    (value_back s.attr (range_of s.attr) s.value (words_back s.attr) (in_range kind s.attr s.value parts.0) parts.1)
    ∙ cond-true _ _ _ parts.0

none_bad : (kind : EndpointKind) (settings : List Setting) → list_all (may_have kind) settings ≡ true
    → bad_key kind (settings_members settings) ≡ None
none_bad kind [] h = refl
none_bad kind (s ∷ rest) h =
    let parts = both (may_have kind s) (list_all (may_have kind) rest) h in
    let named : setting_named kind (name_of s.attr) (value_data s.attr s.value) ≡ Some s =
    ap (option_and_then (λ (a : Attr). setting_from kind a (value_data s.attr s.value))) (by_name s.attr)
    ∙ setting_back kind s parts.0 in
    ap (λ (o : Option Setting). if is_some o then bad_key kind (settings_members rest) else Some (name_of s.attr)) named
    ∙ none_bad kind rest parts.1

picked_back : (kind : EndpointKind) (a : Attr) (settings : List Setting) → list_all (may_have kind) settings ≡ true
    → option_and_then (setting_from kind a)
    (option_map (λ (s : Setting). value_data s.attr s.value) (picked settings a)) ≡ picked settings a
unfolding picked
picked_back kind a [] h = refl
picked_back kind a (s ∷ rest) h =
    let parts = both (may_have kind s) (list_all (may_have kind) rest) h in
    chosen (number_of s.attr == number_of a) refl (setting_back kind s parts.0) (picked_back kind a rest parts.1)
  where
    chosen : (b : Bool) → (number_of s.attr == number_of a) ≡ b
        → setting_from kind s.attr (value_data s.attr s.value) ≡ Some s
        → option_and_then (setting_from kind a)
        (option_map (λ (t : Setting). value_data t.attr t.value) (picked rest a)) ≡ picked rest a
        → option_and_then (setting_from kind a)
        (option_map (λ (t : Setting). value_data t.attr t.value) (cond b (Some s) (picked rest a)))
        ≡ cond b (Some s) (picked rest a)
    chosen true e here later =
        subst (λ (c : Attr). setting_from kind c (value_data s.attr s.value) ≡ Some s)
        (one_number s.attr a (was_same (number_of s.attr) (number_of a) e)) here
    chosen false e here later = later

filter_map_same : {X Y : Type 0} (f g : X → Option Y) → ((x : X) → f x ≡ g x) → (xs : List X)
    → filter_map f xs ≡ filter_map g xs
filter_map_same f g h [] = refl
filter_map_same f g h (x ∷ xs) = ap₂ cons_option (h x) (filter_map_same f g h xs)

pub settings_back : (kind : EndpointKind) (settings : List Setting) → MayHave kind settings
    → settings_from kind (object (settings_members settings)) ≡ Ok settings
unfolding may_have
settings_back kind settings h =
    let good : list_all (may_have kind) settings ≡ true = h.1 in
    let each : (a : Attr)
    → option_and_then (setting_from kind a) (get (name_of a) (object (settings_members settings)))
    ≡ picked settings a = λ a.
    ap (option_and_then (setting_from kind a)) (found settings a) ∙ picked_back kind a settings good in
    let given : settings_of kind (object (settings_members settings)) ≡ settings =
    filter_map_same _ _ each all_attrs ∙ all_picked settings h.0 in
    ap₂ (λ (bad : Option (List ℕ)) (given : List Setting). unless (option_map BadAttribute bad) given)
    (none_bad kind settings good) given
