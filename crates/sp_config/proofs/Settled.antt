-- What holds of attributes that settings were given to, and of settings that are taken in order.
use Rattle.std.proofs.Common.{◌≡◌, ◌<◌, ℕ, Bool, true, false, cond, List, [], ◌∷◌, Option, Some, None, sym, refl, subst, arith}
use Rattle.std.specs.Prelude.{◌&&◌, not, nat_lt, find, option_map}
use Rattle.std.specs.List.{list_all, filter_map, cons_option}
use Rattle.std.proofs.lemmas.Bool.{ltb-true, lt-ltb}
use Rattle.sp_config.specs.declared.attr.Attr.{Attr}
use Rattle.sp_config.specs.declared.attr.Attr.TheVariants as attr
use Rattle.sp_config.specs.declared.kind.EndpointKind.{EndpointKind}
use Rattle.sp_config.specs.declared.kind.EndpointKind.TheVariants.{Queue, TopicEndpoint}
use Rattle.sp_config.specs.declared.setting.Setting.{Setting}
use Rattle.sp_config.specs.declared.value.AttrValue.{AttrValue}
use Rattle.sp_config.specs.declared.value.AttrValue.TheVariants.{Whole, Flag, Word, Text}
use Rattle.sp_config.specs.Attributes.{AttributesView, AreInRange, defaults}
use Rattle.sp_config.specs.Change.{with_value}
use Rattle.sp_config.specs.Names.{all_attrs, name_of}
use Rattle.sp_config.specs.Ranges.{is_in_range}
use Rattle.sp_config.specs.Settings.{bad_attribute, is_allowed, has_partitions, number_of, rise_above, with_settings}

split_and : (a b : Bool) → (a && b) ≡ true → (a ≡ true) × (b ≡ true)
split_and true b h = (refl, h)
split_and false b h = cc

and_true : (a b : Bool) → a ≡ true → b ≡ true → (a && b) ≡ true
and_true true b h k = k
and_true false b h k = h

in_range : (b : AttributesView) →
    is_in_range attr.MaxBindCount (Whole b.max_bind_count) ≡ true →
    is_in_range attr.MaxDeliveredUnackedMsgsPerFlow (Whole b.max_delivered_unacked_msgs_per_flow) ≡ true →
    is_in_range attr.MaxMsgSize (Whole b.max_msg_size) ≡ true →
    is_in_range attr.MaxMsgSpoolUsage (Whole b.max_msg_spool_usage) ≡ true →
    is_in_range attr.MaxRedeliveryCount (Whole b.max_redelivery_count) ≡ true →
    is_in_range attr.MaxTtl (Whole b.max_ttl) ≡ true →
    is_in_range attr.PartitionCount (Whole b.partition_count) ≡ true →
    AreInRange b
in_range b binds window size quota redeliveries ttl partitions = record {
  max_bind_count = binds;
  max_delivered_unacked_msgs_per_flow = window;
  max_msg_size = size;
  max_msg_spool_usage = quota;
  max_redelivery_count = redeliveries;
  max_ttl = ttl;
  partition_count = partitions;
}

-- a value in its attribute's range leaves all in their ranges
value_keeps_ranges : (attribute : Attr) (value : AttrValue) (a : AttributesView) → AreInRange a → is_in_range attribute value ≡ true → AreInRange (with_value attribute value a)
unfolding with_value
value_keeps_ranges attr.AccessType (Word place) a h e = assumption (h, e)
value_keeps_ranges attr.DeadMsgQueue (Text (Some name)) a h e = assumption (h, e)
value_keeps_ranges attr.EgressEnabled (Flag b) a h e = assumption (h, e)
value_keeps_ranges attr.IngressEnabled (Flag b) a h e = assumption (h, e)
value_keeps_ranges attr.MaxBindCount (Whole n) a h e = assumption (h, e)
value_keeps_ranges attr.MaxDeliveredUnackedMsgsPerFlow (Whole n) a h e = assumption (h, e)
value_keeps_ranges attr.MaxMsgSize (Whole n) a h e = assumption (h, e)
value_keeps_ranges attr.MaxMsgSpoolUsage (Whole n) a h e = assumption (h, e)
value_keeps_ranges attr.MaxRedeliveryCount (Whole n) a h e = assumption (h, e)
value_keeps_ranges attr.MaxTtl (Whole n) a h e = assumption (h, e)
value_keeps_ranges attr.Owner (Text name) a h e = assumption (h, e)
value_keeps_ranges attr.PartitionCount (Whole n) a h e = assumption (h, e)
value_keeps_ranges attr.Permission (Word place) a h e = assumption (h, e)
value_keeps_ranges attr.RejectMsgToSenderOnDiscardBehavior (Word place) a h e = assumption (h, e)
value_keeps_ranges attr.RespectTtlEnabled (Flag b) a h e = assumption (h, e)
value_keeps_ranges attribute value a h e = h

-- settings in their ranges leave all attributes in their ranges
pub settings_keep_ranges : (settings : List Setting) (a : AttributesView) → AreInRange a → list_all (λ s. is_in_range s.attr s.value) settings ≡ true → AreInRange (with_settings settings a)
settings_keep_ranges [] a h e = h
settings_keep_ranges (s ∷ settings) a h e =
    let both = split_and (is_in_range s.attr s.value) (list_all (λ s. is_in_range s.attr s.value) settings) e in
    settings_keep_ranges settings (with_value s.attr s.value a) (value_keeps_ranges s.attr s.value a h both.0) both.1

-- the defaults are in their ranges
pub defaults_in_range : (owner : List ℕ) → AreInRange (defaults owner)
defaults_in_range owner = in_range _ refl refl refl refl refl refl refl

allowed_is_in_range : (kind : EndpointKind) (attribute : Attr) (value : AttrValue) → is_allowed kind attribute value ≡ true → is_in_range attribute value ≡ true
allowed_is_in_range Queue attribute value h = h
allowed_is_in_range TopicEndpoint attribute value h = (split_and (is_in_range attribute value) (not (has_partitions attribute value)) h).0

first_is_allowed : (allowed : Bool) (s : Setting) (found : Option Setting) → option_map (λ (s : Setting). name_of s.attr) (cond (not allowed) (Some s) found) ≡ None → (allowed ≡ true) × (option_map (λ (s : Setting). name_of s.attr) found ≡ None)
first_is_allowed true s found h = (refl, h)
first_is_allowed false s found h = cc

-- what an endpoint may have is in its range
pub allowed_in_range : (kind : EndpointKind) (settings : List Setting) → bad_attribute kind settings ≡ None → list_all (λ s. is_in_range s.attr s.value) settings ≡ true
allowed_in_range kind [] h = refl
allowed_in_range kind (s ∷ settings) h =
    let both = first_is_allowed (is_allowed kind s.attr s.value) s (find (λ (s : Setting). not (is_allowed kind s.attr s.value)) settings) h in
    and_true _ _ (allowed_is_in_range kind s.attr s.value both.0) (allowed_in_range kind settings both.1)

rise_above_less : (n m : ℕ) (settings : List Setting) → n < m → rise_above m settings ≡ true → rise_above n settings ≡ true
rise_above_less n m [] less h = refl
rise_above_less n m (s ∷ settings) less h =
    let both = split_and (nat_lt m (number_of s.attr)) (rise_above (number_of s.attr) settings) h in
    and_true _ _ (lt-ltb n (number_of s.attr) (omega (arith, ltb-true m (number_of s.attr) both.0))) both.1

one_more : (a : Attr) (found : Option Setting) (n : ℕ) (settings : List Setting) → ((s : Setting) → found ≡ Some s → s.attr ≡ a) → nat_lt n (number_of a) ≡ true → rise_above (number_of a) settings ≡ true → rise_above n (cons_option found settings) ≡ true
one_more a None n settings own less h = rise_above_less n (number_of a) settings (ltb-true n (number_of a) less) h
one_more a (Some s) n settings own less h =
    subst (λ (b : Attr). (nat_lt n (number_of b) && rise_above (number_of b) settings) ≡ true) (sym (own s refl)) (and_true _ _ less h)

-- each attribute's number is above that of the one before it
attrs_rise : ℕ → List Attr → Bool
attrs_rise n [] = true
attrs_rise n (a ∷ attrs) = nat_lt n (number_of a) && attrs_rise (number_of a) attrs

taken_rise : (f : Attr → Option Setting) → ((a : Attr) (s : Setting) → f a ≡ Some s → s.attr ≡ a) → (n : ℕ) (attrs : List Attr) → attrs_rise n attrs ≡ true → rise_above n (filter_map f attrs) ≡ true
unfolding attrs_rise
taken_rise f own n [] h = refl
taken_rise f own n (a ∷ attrs) h =
    let both = split_and (nat_lt n (number_of a)) (attrs_rise (number_of a) attrs) h in
    one_more a (f a) n (filter_map f attrs) (own a) both.0 (taken_rise f own (number_of a) attrs both.1)

-- what is taken from all attributes in their order rises
pub few : (f : Attr → Option Setting) → ((a : Attr) (s : Setting) → f a ≡ Some s → s.attr ≡ a) → rise_above 0 (filter_map f all_attrs) ≡ true
unfolding attrs_rise
few f own = taken_rise f own 0 all_attrs refl
