-- Settings that are read are those that were written, and what was written is read again.
use Rattle.std.proofs.Common.{◌≡◌, ◌∙◌, ◌+◌, ◌-◌, ◌<◌, ◌≤◌, ◌^◌, ◌++◌, ◌⊎◌, ℕ, zero, suc, Bool, true, false, List, [], ◌∷◌, length, Option, Some, None, refl, sym, ap, subst, arith, inl, inr}
use Rattle.std.specs.Prelude.{◌&&◌, ◌==◌, if◌then◌else◌, nat_le, nat_lt, slice_get}
use Rattle.std.specs.List.{list_all, AllByRecursion}
use Rattle.std.proofs.lemmas.Bool.Decides.{nat_tests}
use Rattle.std.proofs.lemmas.List.{nil_from_length}
use Rattle.std.proofs.lemmas.Bool.{eqb-true}
use Rattle.sp_base.specs.Name.{is_name}
use Rattle.sp_config.specs.declared.attr.Attr.{Attr}
use Rattle.sp_config.specs.declared.attr.Attr.TheVariants as attr
use Rattle.sp_config.specs.declared.range.Range.{Range}
use Rattle.sp_config.specs.declared.range.Range.TheVariants.{Between, TrueOrFalse, OneOf, SomeName, NameOrEmpty}
use Rattle.sp_config.specs.declared.setting.Setting.{Setting}
use Rattle.sp_config.specs.declared.value.AttrValue.{AttrValue}
use Rattle.sp_config.specs.declared.value.AttrValue.TheVariants.{Whole, Flag, Word, Text}
use Rattle.sp_config.specs.Names.{all_attrs}
use Rattle.sp_config.specs.Ranges.{is_in_range, is_within, range_of}
use Rattle.sp_config.specs.Settings.{are_settings, number_of, rise_above}
use Rattle.sp_message.specs.Decoding.{◌>>=◌, list_at, number_within_at, text_at, truth_at}
use Rattle.sp_message.specs.Encoding.{text_bytes}
use Rattle.sp_message.specs.MessageReading.{name_at}
use Rattle.sp_message.proofs.Codecs.{IsBytes, IsCodec, Takes, Takes-byte, bind_some, list_codec, number_within_codec, refit, some_is, tested_codec, text_codec, truth_codec}
use Rattle.sp_message.proofs.Messages.{name_codec}
use Rattle.sp_unit.specs.UnitBytes.{are_attributes, attr_value_bytes, is_named, setting_bytes, settings_bytes}
use Rattle.sp_unit.specs.UnitReading.{attr_value_at, attribute_numbered, owner_at, setting_at, settings_at, word_at}
use Rattle.sp_unit.proofs.FewSettings.{and_true, split_and}

-- ---- the number of an attribute

numbered_again : (a : Attr) → attribute_numbered (number_of a) ≡ Some a
unfolding attribute_numbered
numbered_again attr.AccessType = refl
numbered_again attr.DeadMsgQueue = refl
numbered_again attr.EgressEnabled = refl
numbered_again attr.IngressEnabled = refl
numbered_again attr.MaxBindCount = refl
numbered_again attr.MaxDeliveredUnackedMsgsPerFlow = refl
numbered_again attr.MaxMsgSize = refl
numbered_again attr.MaxMsgSpoolUsage = refl
numbered_again attr.MaxRedeliveryCount = refl
numbered_again attr.MaxTtl = refl
numbered_again attr.Owner = refl
numbered_again attr.PartitionCount = refl
numbered_again attr.Permission = refl
numbered_again attr.RejectMsgToSenderOnDiscardBehavior = refl
numbered_again attr.RespectTtlEnabled = refl

-- attributes that have the numbers from k on
NumberedFrom : ℕ → List Attr → Type 0
NumberedFrom k [] = Unit {0}
NumberedFrom k (a ∷ attrs) = (number_of a ≡ k) × NumberedFrom (suc k) attrs

numbered_in : (k : ℕ) (attrs : List Attr) (i : ℕ) (a : Attr) → NumberedFrom k attrs → slice_get attrs i ≡ Some a
    → number_of a ≡ k + i
unfolding NumberedFrom
numbered_in k [] i a h e = absurd cc
numbered_in k (b ∷ attrs) zero a h e = ap number_of (sym (some_is b a e)) ∙ (h.0 ∙ (omega arith))
numbered_in k (b ∷ attrs) (suc i) a h e = numbered_in (suc k) attrs i a h.1 e ∙ (omega arith)

pub numbered : (n : ℕ) (a : Attr) → attribute_numbered n ≡ Some a → number_of a ≡ n
unfolding attribute_numbered NumberedFrom
numbered zero a e = absurd cc
numbered (suc n) a e =
    let last : suc n - 1 ≡ n = omega arith in
    let same : attribute_numbered (suc n) ≡ slice_get all_attrs n =
    ap (λ (b : Bool). if b then slice_get all_attrs (suc n - 1) else None) (at_least n)
    ∙ ap (λ i. slice_get all_attrs i) last in
    numbered_in 1 all_attrs n a (
      refl,
      (
        refl,
        (
          refl,
          (
            refl,
            (refl, (refl, (refl, (refl, (refl, (refl, (refl, (refl, (refl, (refl, (refl, tt))))))))))),
          ),
        ),
      ),
    ) (sym same ∙ e) ∙ one
  where
    one : 1 + n ≡ suc n
    one = omega arith

    at_least : (n : ℕ) → nat_le 1 (suc n) ≡ true
    at_least n = grind (arith, nat_tests)

-- ---- a value of a range

-- whole numbers of the range have 8 bytes
IsSmall : Range → Type 0
IsSmall (Between least most) = most < 2 ^ 64
IsSmall TrueOrFalse = Unit {0}
IsSmall (OneOf words) = Unit {0}
IsSmall SomeName = Unit {0}
IsSmall NameOrEmpty = Unit {0}

are_small : (a : Attr) → IsSmall (range_of a)
unfolding IsSmall
are_small attr.AccessType = tt
are_small attr.DeadMsgQueue = tt
are_small attr.EgressEnabled = tt
are_small attr.IngressEnabled = tt
are_small attr.MaxBindCount = omega arith
are_small attr.MaxDeliveredUnackedMsgsPerFlow = omega arith
are_small attr.MaxMsgSize = omega arith
are_small attr.MaxMsgSpoolUsage = omega arith
are_small attr.MaxRedeliveryCount = omega arith
are_small attr.MaxTtl = omega arith
are_small attr.Owner = tt
are_small attr.PartitionCount = omega arith
are_small attr.Permission = tt
are_small attr.RejectMsgToSenderOnDiscardBehavior = tt
are_small attr.RespectTtlEnabled = tt

abbrev Suits : Range → AttrValue → Type 0
Suits range value = (is_within range value ≡ true) × (is_named value ≡ true)

abbrev Taken : List ℕ → Range → AttrValue × List ℕ → Type 0
Taken bytes range x = Takes bytes (attr_value_bytes x.0) x.1 × Suits range x.0

chosen : {A : Type 0} (b : Bool) (x : A) (y : Option A) (z : A) → (if b then Some x else y) ≡ Some z
    → ((b ≡ true) × (x ≡ z)) ⊎ ((b ≡ false) × (y ≡ Some z))
chosen true x y z e = inl (refl, some_is x z e)
chosen false x y z e = inr (refl, e)

guarded : {A : Type 0} (b : Bool) (x z : A) → (if b then Some x else None) ≡ Some z → (b ≡ true) × (x ≡ z)
guarded true x z e = (refl, some_is x z e)
guarded false x z e = absurd cc

word_taken : (words : ℕ) (bytes : List ℕ) (x : AttrValue × List ℕ) → IsBytes bytes → word_at words bytes ≡ Some x
    → Taken bytes (OneOf words) x
unfolding word_at
word_taken words [] x is e = absurd cc
word_taken words (place ∷ bytes) x is e =
    let g = guarded (nat_lt place words) (Word place, bytes) x e in
    subst (Taken (place ∷ bytes) (OneOf words)) g.1 (record { parts = refl; rest_fits = λ i. is (suc i) }, (g.0, refl))

owner_taken : (bytes : List ℕ) (x : AttrValue × List ℕ) → IsBytes bytes → owner_at bytes ≡ Some x
    → Taken bytes NameOrEmpty x
unfolding owner_at
owner_taken bytes x is e =
    let b = bind_some (text_at bytes) _ x e in
    let t = (text_codec.takes bytes b.0.0 b.0.1 is b.1).0 in
    elim (chosen (length b.0.0 == 0) (Text None, b.0.1) _ x b.2) [
      | inl h ↦
          let empty : b.0.0 ≡ [] = nil_from_length b.0.0 (eqb-true (length b.0.0) 0 h.0) in
          subst (Taken bytes NameOrEmpty) h.1
          (subst (λ (w : List ℕ). Takes bytes (text_bytes w) b.0.1) empty t, (refl, refl))
      | inr h ↦
          let g = guarded (is_name b.0.0) (Text (Some b.0.0), b.0.1) x h.1 in
          subst (Taken bytes NameOrEmpty) g.1 (t, (refl, g.0))
    ]

value_taken : (range : Range) → IsSmall range → (bytes : List ℕ) (x : AttrValue × List ℕ) → IsBytes bytes
    → attr_value_at range bytes ≡ Some x → Taken bytes range x
unfolding attr_value_at IsSmall
value_taken (Between least most) small bytes x is e =
    let b = bind_some (number_within_at least most bytes) (λ n. Some (Whole n.0, n.1)) x e in
    let t = (number_within_codec least most small).takes bytes b.0.0 b.0.1 is b.1 in
    subst (Taken bytes (Between least most)) (some_is (Whole b.0.0, b.0.1) x b.2)
    (t.0, (within b.0.0 t.1.0 t.1.1, refl))
  where
    within : (n : ℕ) → least ≤ n → n ≤ most → (nat_le least n && nat_le n most) ≡ true
    within n h k = grind (arith, nat_tests)
value_taken TrueOrFalse small bytes x is e =
    let b = bind_some (truth_at bytes) (λ t. Some (Flag t.0, t.1)) x e in
    let t = truth_codec.takes bytes b.0.0 b.0.1 is b.1 in
    subst (Taken bytes TrueOrFalse) (some_is (Flag b.0.0, b.0.1) x b.2) (t.0, (refl, refl))
value_taken (OneOf words) small bytes x is e = word_taken words bytes x is e
value_taken SomeName small bytes x is e =
    let b = bind_some (name_at bytes) (λ n. Some (Text (Some n.0), n.1)) x e in
    let t = name_codec.takes bytes b.0.0 b.0.1 is b.1 in
    subst (Taken bytes SomeName) (some_is (Text (Some b.0.0), b.0.1) x b.2) (t.0, (refl, t.1))
value_taken NameOrEmpty small bytes x is e = owner_taken bytes x is e

name_some : (name : List ℕ) → is_name name ≡ true → (length name == 0) ≡ false
name_some name h = grind (arith, nat_tests)

short_name : (name : List ℕ) → is_name name ≡ true → length name < 2 ^ 32
short_name name h = grind (arith, nat_tests)

owner_again : (name : Option (List ℕ)) (rest : List ℕ) → is_named (Text name) ≡ true
    → owner_at (attr_value_bytes (Text name) ++ rest) ≡ Some (Text name, rest)
unfolding owner_at
owner_again None rest h = rw (text_codec.again [] rest (omega arith)) refl
owner_again (Some name) rest h = rw (text_codec.again name rest (short_name name h), name_some name h, h) refl

value_again : (range : Range) (value : AttrValue) (rest : List ℕ) → IsSmall range → Suits range value
    → attr_value_at range (attr_value_bytes value ++ rest) ≡ Some (value, rest)
unfolding attr_value_at IsSmall word_at
value_again (Between least most) (Whole n) rest small h =
    rw ((number_within_codec least most small).again n rest (inside h.0)) refl
  where
    inside : (nat_le least n && nat_le n most) ≡ true → (least ≤ n) × (n ≤ most)
    inside k = (grind (arith, nat_tests), grind (arith, nat_tests))
value_again (Between least most) (Flag b) rest small h = absurd cc
value_again (Between least most) (Word place) rest small h = absurd cc
value_again (Between least most) (Text name) rest small h = absurd cc
value_again TrueOrFalse (Flag b) rest small h = rw (truth_codec.again b rest tt) refl
value_again TrueOrFalse (Whole n) rest small h = absurd cc
value_again TrueOrFalse (Word place) rest small h = absurd cc
value_again TrueOrFalse (Text name) rest small h = absurd cc
value_again (OneOf words) (Word place) rest small h = ap (λ (b : Bool). if b then Some (Word place, rest) else None) h.0
value_again (OneOf words) (Whole n) rest small h = absurd cc
value_again (OneOf words) (Flag b) rest small h = absurd cc
value_again (OneOf words) (Text name) rest small h = absurd cc
value_again SomeName (Text (Some name)) rest small h = rw (name_codec.again name rest h.1) refl
value_again SomeName (Text None) rest small h = absurd cc
value_again SomeName (Whole n) rest small h = absurd cc
value_again SomeName (Flag b) rest small h = absurd cc
value_again SomeName (Word place) rest small h = absurd cc
value_again NameOrEmpty (Text name) rest small h = owner_again name rest h.1
value_again NameOrEmpty (Whole n) rest small h = absurd cc
value_again NameOrEmpty (Flag b) rest small h = absurd cc
value_again NameOrEmpty (Word place) rest small h = absurd cc

-- ---- settings

abbrev IsSetting : Setting → Type 0
IsSetting s = Suits (range_of s.attr) s.value

setting_takes : (bytes : List ℕ) (s : Setting) (rest : List ℕ) → IsBytes bytes → setting_at bytes ≡ Some (s, rest)
    → Takes bytes (setting_bytes s) rest × IsSetting s
unfolding setting_at
setting_takes [] s rest is e = absurd cc
setting_takes (n ∷ bytes) s rest is e =
    let a = bind_some (attribute_numbered n)
    (λ attribute. attr_value_at (range_of attribute) bytes >>= λ value. Some
    (record { attr = attribute; value = value.0 }, value.1)) (s, rest) e in
    let b = bind_some (attr_value_at (range_of a.0) bytes)
    (λ value. Some (record { attr = a.0; value = value.0 }, value.1)) (s, rest) a.2 in
    let t = value_taken (range_of a.0) (are_small a.0) bytes b.0 (λ i. is (suc i)) b.1 in
    let front = subst (λ (k : ℕ). Takes (n ∷ bytes) (k ∷ attr_value_bytes b.0.0) b.0.1) (sym (numbered n a.0 a.1))
    (Takes-byte n bytes (attr_value_bytes b.0.0) b.0.1 t.0) in
    subst (λ (x : Setting × List ℕ). Takes (n ∷ bytes) (setting_bytes x.0) x.1 × IsSetting x.0)
    (some_is (record { attr = a.0; value = b.0.0 }, b.0.1) (s, rest) b.2) (front, t.1)

setting_again : (s : Setting) (rest : List ℕ) → IsSetting s → setting_at (setting_bytes s ++ rest) ≡ Some (s, rest)
unfolding setting_at
setting_again s rest h =
    rw (numbered_again s.attr, value_again (range_of s.attr) s.value rest (are_small s.attr) h) refl

setting_codec : IsCodec IsSetting setting_bytes setting_at
setting_codec = record { takes = setting_takes; again = setting_again }

each_named : (settings : List Setting) → AllByRecursion IsSetting settings
    → list_all (λ s. is_named s.value) settings ≡ true
each_named [] h = refl
each_named (s ∷ settings) h = and_true _ _ h.0.1 (each_named settings h.1)

each_suits : (settings : List Setting) → list_all (λ s. is_in_range s.attr s.value) settings ≡ true
    → list_all (λ s. is_named s.value) settings ≡ true → AllByRecursion IsSetting settings
each_suits [] h k = tt
each_suits (s ∷ settings) h k =
    let a = split_and (is_in_range s.attr s.value) (list_all (λ s. is_in_range s.attr s.value) settings) h in
    let b = split_and (is_named s.value) (list_all (λ s. is_named s.value) settings) k in
    ((a.0, b.0), each_suits settings a.1 b.1)

pub settings_codec : IsCodec (λ s. are_attributes s ≡ true) settings_bytes settings_at
unfolding settings_at
settings_codec =
    refit (λ s. AllByRecursion IsSetting s × (are_settings s ≡ true)) (λ s. are_attributes s ≡ true) settings_bytes
    settings_at
    (tested_codec (λ s. AllByRecursion IsSetting s) settings_bytes (list_at setting_at) are_settings
    (list_codec IsSetting setting_bytes setting_at setting_codec))
    (λ s h. and_true _ _ h.1 (each_named s h.0)) from
  where
    from : (s : List Setting) → are_attributes s ≡ true → AllByRecursion IsSetting s × (are_settings s ≡ true)
    from s h =
        let both = split_and (are_settings s) (list_all (λ s. is_named s.value) s) h in (
          each_suits s (split_and (list_all (λ s. is_in_range s.attr s.value) s) (rise_above 0 s) both.0).0 both.1,
          both.0,
        )
