-- The rules that a request may break, and what the refusals of each show.
use Rattle.std.specs.Prelude.{ℕ, List, [], ◌∷◌, codes}
use Rattle.sp_base.specs.declared.refusal.shown.ShownValue.TheVariants.{Number, Text, Permission, Kind}
use Rattle.sp_base.specs.declared.refusal.Refusal.{Refusal}
use Rattle.sp_base.specs.declared.refusal.Refusal.TheVariants.{BadRequest, DirectMode, BadTopic, BadSubscription, BadSelector, BadAttribute, UnknownEndpoint, EndpointExists, EndpointLimit, NoAccess, InUse, SubscriptionExists, SubscriptionLimit, UnknownSubscription, IngressDisabled, EgressDisabled, MessageTooLarge, QuotaExceeded, VpnQuotaExceeded, BindLimit, UnknownFlow, NotHeld, ReplayActive, NoReplay, LogDisabled, NotInLog, IdsSpent}
use Rattle.sp_base.specs.Shown.{ShownAs, shown_as}

-- a rule's place in the order in which refusals are told, and its name
abbrev pub rule_of : Refusal → ℕ × List ℕ
rule_of (BadRequest at) = (1, codes "BadRequest")
rule_of DirectMode = (2, codes "DirectMode")
rule_of (BadTopic at) = (3, codes "BadTopic")
rule_of (BadSubscription at) = (4, codes "BadSubscription")
rule_of (BadSelector at) = (5, codes "BadSelector")
rule_of (BadAttribute name) = (6, codes "BadAttribute")
rule_of (UnknownEndpoint name) = (7, codes "UnknownEndpoint")
rule_of (EndpointExists name) = (8, codes "EndpointExists")
rule_of (EndpointLimit most) = (9, codes "EndpointLimit")
rule_of (NoAccess need has) = (10, codes "NoAccess")
rule_of (InUse flows copies) = (11, codes "InUse")
rule_of SubscriptionExists = (12, codes "SubscriptionExists")
rule_of (SubscriptionLimit most) = (13, codes "SubscriptionLimit")
rule_of UnknownSubscription = (14, codes "UnknownSubscription")
rule_of (IngressDisabled name) = (15, codes "IngressDisabled")
rule_of (EgressDisabled name) = (16, codes "EgressDisabled")
rule_of (MessageTooLarge size most) = (17, codes "MessageTooLarge")
rule_of (QuotaExceeded name used size most) = (18, codes "QuotaExceeded")
rule_of (VpnQuotaExceeded used size most) = (19, codes "VpnQuotaExceeded")
rule_of (BindLimit bound most) = (20, codes "BindLimit")
rule_of (UnknownFlow flow) = (21, codes "UnknownFlow")
rule_of (NotHeld copy) = (22, codes "NotHeld")
rule_of (ReplayActive replay) = (23, codes "ReplayActive")
rule_of NoReplay = (24, codes "NoReplay")
rule_of LogDisabled = (25, codes "LogDisabled")
rule_of (NotInLog first last) = (26, codes "NotInLog")
rule_of (IdsSpent kind) = (27, codes "IdsSpent")

abbrev pub number_of : Refusal → ℕ
number_of refusal = (rule_of refusal).0

abbrev pub rule_name : Refusal → List ℕ
rule_name refusal = (rule_of refusal).1

-- the values that a refusal shows, in rising order of their names
abbrev pub shown_of : Refusal → List ShownAs
shown_of (BadRequest at) = shown_as (codes "at") (Number at) ∷ []
shown_of DirectMode = []
shown_of (BadTopic at) = shown_as (codes "at") (Number at) ∷ []
shown_of (BadSubscription at) = shown_as (codes "at") (Number at) ∷ []
shown_of (BadSelector at) = shown_as (codes "at") (Number at) ∷ []
shown_of (BadAttribute name) = shown_as (codes "name") (Text name) ∷ []
shown_of (UnknownEndpoint name) = shown_as (codes "name") (Text name) ∷ []
shown_of (EndpointExists name) = shown_as (codes "name") (Text name) ∷ []
shown_of (EndpointLimit most) = shown_as (codes "max") (Number most) ∷ []
shown_of (NoAccess need has) = shown_as (codes "has") (Permission has) ∷ shown_as (codes "need") (Permission need) ∷ []
shown_of (InUse flows copies) =
    shown_as (codes "copies") (Number copies) ∷ shown_as (codes "flows") (Number flows) ∷ []
shown_of SubscriptionExists = []
shown_of (SubscriptionLimit most) = shown_as (codes "max") (Number most) ∷ []
shown_of UnknownSubscription = []
shown_of (IngressDisabled name) = shown_as (codes "name") (Text name) ∷ []
shown_of (EgressDisabled name) = shown_as (codes "name") (Text name) ∷ []
shown_of (MessageTooLarge size most) =
    shown_as (codes "max") (Number most) ∷ shown_as (codes "size") (Number size) ∷ []
shown_of (QuotaExceeded name used size most) =
    shown_as (codes "max") (Number most) ∷ shown_as (codes "name") (Text name)
    ∷ shown_as (codes "size") (Number size) ∷ shown_as (codes "used") (Number used) ∷ []
shown_of (VpnQuotaExceeded used size most) =
    shown_as (codes "max") (Number most) ∷ shown_as (codes "size") (Number size)
    ∷ shown_as (codes "used") (Number used) ∷ []
shown_of (BindLimit bound most) = shown_as (codes "bound") (Number bound) ∷ shown_as (codes "max") (Number most) ∷ []
shown_of (UnknownFlow flow) = shown_as (codes "flow") (Number flow) ∷ []
shown_of (NotHeld copy) = shown_as (codes "copy") (Number copy) ∷ []
shown_of (ReplayActive replay) = shown_as (codes "replay") (Number replay) ∷ []
shown_of NoReplay = []
shown_of LogDisabled = []
shown_of (NotInLog first last) = shown_as (codes "first") (Number first) ∷ shown_as (codes "last") (Number last) ∷ []
shown_of (IdsSpent kind) = shown_as (codes "kind") (Kind kind) ∷ []
