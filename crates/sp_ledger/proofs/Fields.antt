-- Endpoints that are found and get other fields.
use Rattle.sp_config.proofs.Settled.{allowed_in_range, settings_keep_ranges}
use Rattle.sp_config.specs.Attributes.{AreInRange, AttributesView, defaults, is_exclusive, quota_of}
use Rattle.sp_config.specs.Change.{with_value}
use Rattle.sp_config.specs.Names.{name_of}
use Rattle.sp_config.specs.Ranges.{is_in_range}
use Rattle.sp_config.specs.Settings.{bad_attribute, is_allowed, with_settings}
use Rattle.sp_config.specs.declared.attr.Attr.{Attr}
use Rattle.sp_config.specs.declared.attr.Attr.TheVariants as attr
use Rattle.sp_config.specs.declared.kind.EndpointKind.{EndpointKind}
use Rattle.sp_config.specs.declared.kind.EndpointKind.TheVariants.{Queue, TopicEndpoint}
use Rattle.sp_config.specs.declared.setting.Setting.{Setting}
use Rattle.sp_config.specs.declared.value.AttrValue.{AttrValue}
use Rattle.sp_config.specs.declared.value.AttrValue.TheVariants.{Flag, Text, Whole, Word}
use Rattle.sp_copies.specs.Counts.{spooled_count}
use Rattle.sp_endpoint.specs.Endpoint.{EndpointView}
use Rattle.sp_endpoint.specs.Endpoints.{is_queue}
use Rattle.sp_ledger.proofs.Listed.{All-find, and_both, and_left, and_right, not_true, pairs_head, pairs_tail}
use Rattle.sp_ledger.specs.Allowed.{MayBecome}
use Rattle.sp_ledger.specs.Ledger.{Ledger}
use Rattle.sp_ledger.specs.Limits.{greatest_quota}
use Rattle.sp_endpoint.specs.Endpoint.{new_endpoint}
use Rattle.sp_ledger.specs.OnEndpoints.{differ, shares_otherwise}
use Rattle.sp_ledger.specs.OnFlows.{fits_kind, flow_selector, own_selector}
use Rattle.sp_ledger.specs.Sound.{AreEndpoints, IsEndpoint, suits_flow, suits_kind}
use Rattle.std.proofs.Common.{ap, ap₂, arith, refl, subst, sym, ◌∙◌}
use Rattle.std.proofs.lemmas.Bool.{eq-eqb, eqb-true, leb-true, ltb-false}
use Rattle.std.proofs.lemmas.List.Elements.{All-cons, All-weaker}
use Rattle.std.specs.Prelude.{All, AllPairs, Bool, List, None, Option, Some, [], cond, false, find, is_none, is_some, length}
use Rattle.std.specs.Prelude.{nat_le, nat_lt, not, option_map, true, ℕ, ◌<◌, ◌==◌, ◌||◌, ◌∷◌, ◌≡◌, ◌≤◌}

not_some : {X : Type 0} (found : Option X) → is_some found ≡ false → found ≡ None
not_some None h = refl
not_some (Some x) h = absurd (cc)

-- settings that an endpoint of the kind may have leave all in their ranges
pub allowed_keep_ranges : (kind : EndpointKind) (settings : List Setting) (a : AttributesView) → AreInRange a →
    is_some (bad_attribute kind settings) ≡ false → AreInRange (with_settings settings a)
allowed_keep_ranges kind settings a h none =
    settings_keep_ranges settings a h (allowed_in_range kind settings (not_some (bad_attribute kind settings) none))

-- a topic endpoint's settings leave it without partitions
value_leaves_none : (attribute : Attr) (value : AttrValue) (a : AttributesView) →
    is_allowed TopicEndpoint attribute value ≡ true → a.partition_count ≡ 0 →
    (with_value attribute value a).partition_count ≡ 0
unfolding with_value
value_leaves_none attr.AccessType (Word place) a h e = e
value_leaves_none attr.DeadMsgQueue (Text (Some name)) a h e = e
value_leaves_none attr.EgressEnabled (Flag b) a h e = e
value_leaves_none attr.IngressEnabled (Flag b) a h e = e
value_leaves_none attr.MaxBindCount (Whole n) a h e = e
value_leaves_none attr.MaxDeliveredUnackedMsgsPerFlow (Whole n) a h e = e
value_leaves_none attr.MaxMsgSize (Whole n) a h e = e
value_leaves_none attr.MaxMsgSpoolUsage (Whole n) a h e = e
value_leaves_none attr.MaxRedeliveryCount (Whole n) a h e = e
value_leaves_none attr.MaxTtl (Whole n) a h e = e
value_leaves_none attr.Owner (Text name) a h e = e
value_leaves_none attr.PartitionCount (Whole n) a h e = let none =
    ltb-false 0 n (not_true (nat_lt 0 n)
    (and_right (is_in_range attr.PartitionCount (Whole n)) (not (nat_lt 0 n)) h)) in omega (arith, none)
value_leaves_none attr.Permission (Word place) a h e = e
value_leaves_none attr.RejectMsgToSenderOnDiscardBehavior (Word place) a h e = e
value_leaves_none attr.RespectTtlEnabled (Flag b) a h e = e
value_leaves_none attribute value a h e = e

first_is_allowed : (allowed : Bool) (s : Setting) (found : Option Setting) →
    option_map (λ (s : Setting). name_of s.attr) (cond (not allowed) (Some s) found) ≡ None →
    (allowed ≡ true) × (option_map (λ (s : Setting). name_of s.attr) found ≡ None)
first_is_allowed true s found h = (refl, h)
first_is_allowed false s found h = cc

leave_none : (settings : List Setting) (a : AttributesView) → bad_attribute TopicEndpoint settings ≡ None →
    a.partition_count ≡ 0 → (with_settings settings a).partition_count ≡ 0
leave_none [] a h e = e
leave_none (s ∷ settings) a h e =
    let both = first_is_allowed (is_allowed TopicEndpoint s.attr s.value) s
    (find (λ (s : Setting). not (is_allowed TopicEndpoint s.attr s.value)) settings) h in
    leave_none settings (with_value s.attr s.value a) both.1 (value_leaves_none s.attr s.value a both.0 e)

-- settings that the kind allows keep an endpoint suited to it
pub settings_suit : (kind : EndpointKind) (settings : List Setting) (e : EndpointView) →
    is_some (bad_attribute kind settings) ≡ false → suits_kind kind e ≡ true →
    suits_kind kind (record e { attributes = with_settings settings e.attributes }) ≡ true
settings_suit Queue settings e none h = h
settings_suit TopicEndpoint settings e none h =
    and_both (length e.subscriptions == 0) _ (and_left (length e.subscriptions == 0) _ h)
    (eq-eqb _ 0 (leave_none settings e.attributes (not_some (bad_attribute TopicEndpoint settings) none)
    (eqb-true _ 0 (and_right (length e.subscriptions == 0) _ h))))

-- subscriptions suit a queue
pub texts_suit : (kind : EndpointKind) (texts : List (List ℕ)) (e : EndpointView) → is_queue kind ≡ true →
    suits_kind kind e ≡ true → suits_kind kind (record e { subscriptions = texts }) ≡ true
texts_suit Queue texts e is h = h
texts_suit TopicEndpoint texts e is h = absurd (cc)

-- a topic that fits the kind suits it, with a topic endpoint's own selector
pub topic_suits : (kind : EndpointKind) (selector topic : Option (List ℕ)) (e : EndpointView) →
    fits_kind kind topic ≡ true → suits_kind kind e ≡ true →
    suits_kind kind (record e { topic = topic; selector = own_selector kind selector }) ≡ true
topic_suits Queue selector topic e is h = and_both (is_none topic) true is refl
topic_suits TopicEndpoint selector topic e is h = h

-- the selector of a flow suits the kind of its endpoint
pub flow_suits : (kind : EndpointKind) (selector : Option (List ℕ)) →
    suits_flow kind (flow_selector kind selector) ≡ true
flow_suits Queue selector = refl
flow_suits TopicEndpoint selector = refl

-- a new endpoint suits its kind
pub new_suits : (kind : EndpointKind) (number : ℕ) (caller name : List ℕ) (settings : List Setting) →
    is_some (bad_attribute kind settings) ≡ false →
    suits_kind kind (new_endpoint number caller name kind settings) ≡ true
new_suits Queue number caller name settings none = refl
new_suits TopicEndpoint number caller name settings none =
    eq-eqb _ 0 (leave_none settings (defaults caller) (not_some (bad_attribute TopicEndpoint settings) none) refl)

-- no other endpoint has the number of the one that was found
module _ (p : EndpointView → Bool) (e : EndpointView) where
  abbrev IsOnly : EndpointView → Type 0
  IsOnly x = (x.number == e.number) ≡ true → x ≡ e

  abbrev Rise : EndpointView → EndpointView → Type 0
  Rise d x = d.number < x.number

  pub only_found : (endpoints : List EndpointView) → AllPairs Rise endpoints → find p endpoints ≡ Some e →
      All IsOnly endpoints
  only_found [] rise found = absurd (cc)
  only_found (x ∷ xs) rise found = one (only_found xs (pairs_tail Rise x xs rise)) (p x) found
    where
      above : All (Rise x) xs
      above = pairs_head Rise x xs rise

      one : (find p xs ≡ Some e → All IsOnly xs) → (b : Bool) → cond b (Some x) (find p xs) ≡ Some e →
          All IsOnly (x ∷ xs)
      one later true k =
          let same : x ≡ e = cc in
          let number : x.number ≡ e.number = ap (λ (y : EndpointView). y.number) same in
          All-cons IsOnly x xs (λ is. same)
          (All-weaker (Rise x) IsOnly
          (λ y lt is. let again : y.number ≡ e.number = eqb-true _ _ is in absurd (omega arith)) xs above)
      one later false k =
          let lt : x.number < e.number = All-find (Rise x) p xs e above k in
          All-cons IsOnly x xs (λ is. let again : x.number ≡ e.number = eqb-true _ _ is in absurd (omega arith))
          (later k)

-- other fields may stand in the place of an endpoint that was found
pub may_become : (L : Ledger) (p : EndpointView → Bool) (e new : EndpointView) →
    AreEndpoints L.next.endpoint L.endpoints → find p L.endpoints ≡ Some e → new.number ≡ e.number →
    new.name ≡ e.name → new.kind ≡ e.kind →
    (shares_otherwise e.attributes new.attributes ≡ true → spooled_count L.copies (Some new.number) ≡ 0) →
    IsEndpoint new → MayBecome L new
may_become L p e new are found number name kind sharing fits = record {
  named = All-weaker (IsOnly p e) (λ (x : EndpointView). (x.number == new.number) ≡ true → x.name ≡ new.name)
      (λ x only is. let same : x ≡ e = only (subst (λ n. (x.number == n) ≡ true) number is) in
      ap (λ (y : EndpointView). y.name) same ∙ sym name) L.endpoints (only_found p e L.endpoints are.rise found);
  kind = All-weaker (IsOnly p e) (λ (x : EndpointView). (x.number == new.number) ≡ true → x.kind ≡ new.kind)
      (λ x only is. let same : x ≡ e = only (subst (λ n. (x.number == n) ≡ true) number is) in
      ap (λ (y : EndpointView). y.kind) same ∙ sym kind) L.endpoints (only_found p e L.endpoints are.rise found);
  sharing = All-weaker (IsOnly p e) (λ (x : EndpointView). (x.number == new.number) ≡ true →
      shares_otherwise x.attributes new.attributes ≡ true → spooled_count L.copies (Some new.number) ≡ 0)
      (λ x only is other. let same : x ≡ e = only (subst (λ n. (x.number == n) ≡ true) number is) in
      sharing (subst (λ (y : EndpointView). shares_otherwise y.attributes new.attributes ≡ true) same other))
      L.endpoints (only_found p e L.endpoints are.rise found);
  fits = fits;
}

-- the same attributes share copies likewise
differ_own : (b : Bool) → differ b b ≡ false
differ_own true = refl
differ_own false = refl

pub shares_own : (a : AttributesView) → shares_otherwise a a ≡ false
shares_own a =
    ap (λ b. b || not (a.partition_count == a.partition_count)) (differ_own (is_exclusive a.access_type))
    ∙ ap not (eq-eqb a.partition_count a.partition_count refl)

-- so that no endpoint of the number shares them otherwise
pub shares_no_other : (L : Ledger) (p : EndpointView → Bool) (e new : EndpointView) →
    AreEndpoints L.next.endpoint L.endpoints → find p L.endpoints ≡ Some e → new.number ≡ e.number →
    new.attributes ≡ e.attributes →
    All (λ x. (x.number == new.number) ≡ true → shares_otherwise x.attributes new.attributes ≡ false) L.endpoints
shares_no_other L p e new are found number same_attributes =
    All-weaker (IsOnly p e)
    (λ (x : EndpointView). (x.number == new.number) ≡ true → shares_otherwise x.attributes new.attributes ≡ false)
    (λ x only is. let same : x ≡ e = only (subst (λ n. (x.number == n) ≡ true) number is) in
    ap₂ (λ (y : EndpointView) (a : AttributesView). shares_otherwise y.attributes a) same same_attributes
    ∙ shares_own e.attributes) L.endpoints (only_found p e L.endpoints are.rise found)

pub endpoint_found : (L : Ledger) (p : EndpointView → Bool) (e : EndpointView) →
    AreEndpoints L.next.endpoint L.endpoints → find p L.endpoints ≡ Some e → IsEndpoint e
endpoint_found L p e are found = All-find IsEndpoint p L.endpoints e are.each found

-- the quota of attributes in their ranges is at most the greatest one
pub quota_below : (a : AttributesView) → AreInRange a → quota_of a ≤ greatest_quota
quota_below a r = let most :
    a.max_msg_spool_usage ≤ 800000 =
    leb-true a.max_msg_spool_usage 800000
    (and_right (nat_le 1 a.max_msg_spool_usage) (nat_le a.max_msg_spool_usage 800000) r.max_msg_spool_usage) in
    omega arith
