-- Each refusal is told by what its line shows.
use Rattle.std.proofs.Common.{◌≡◌, ℕ, List, refl, ap, ap₂, codes}
use Rattle.std.specs.Prelude.{◌==◌, if◌then◌else◌}
use Rattle.std.specs.Option.{unwrap_or}
use Rattle.serde_json.specs.Data.{Members}
use Rattle.sp_base.specs.Choice.{choice_named}
use Rattle.sp_base.specs.Words.{permission_word, permissions, kind_word, kinds}
use Rattle.sp_base.specs.declared.refusal.Kind.{Kind}
use Rattle.sp_base.specs.declared.refusal.Kind.TheVariants as kind
use Rattle.sp_base.specs.declared.refusal.Permission.{Permission}
use Rattle.sp_base.specs.declared.refusal.Permission.TheVariants as permission
use Rattle.sp_base.specs.declared.refusal.Refusal.{Refusal}
use Rattle.sp_base.specs.declared.refusal.Refusal.TheVariants.{BadRequest, DirectMode, BadTopic, BadSubscription}
use Rattle.sp_base.specs.declared.refusal.Refusal.TheVariants.{BadSelector, BadAttribute, UnknownEndpoint}
use Rattle.sp_base.specs.declared.refusal.Refusal.TheVariants.{EndpointExists, EndpointLimit, NoAccess, InUse}
use Rattle.sp_base.specs.declared.refusal.Refusal.TheVariants.{SubscriptionExists, SubscriptionLimit}
use Rattle.sp_base.specs.declared.refusal.Refusal.TheVariants.{UnknownSubscription, IngressDisabled, EgressDisabled}
use Rattle.sp_base.specs.declared.refusal.Refusal.TheVariants.{MessageTooLarge, QuotaExceeded, VpnQuotaExceeded}
use Rattle.sp_base.specs.declared.refusal.Refusal.TheVariants.{BindLimit, UnknownFlow, NotHeld, ReplayActive, NoReplay}
use Rattle.sp_base.specs.declared.refusal.Refusal.TheVariants.{LogDisabled, NotInLog, IdsSpent}
use Rattle.sp_flowline.specs.Answers.{refusal_data}
use Rattle.sp_flowline.proofs.MembersBack.{num, text, fields}

abbrev permission_of : List ℕ → Permission
permission_of word = unwrap_or (choice_named permission_word permissions word) permission.NoAccess

permission_back : (p : Permission) → permission_of (permission_word p) ≡ p
permission_back permission.NoAccess = refl
permission_back permission.ReadOnly = refl
permission_back permission.Consume = refl
permission_back permission.ModifyTopic = refl
permission_back permission.Delete = refl

abbrev kind_of : List ℕ → Kind
kind_of word = unwrap_or (choice_named kind_word kinds word) kind.Endpoint

kind_back : (k : Kind) → kind_of (kind_word k) ≡ k
kind_back kind.Endpoint = refl
kind_back kind.Message = refl
kind_back kind.Copy = refl
kind_back kind.Flow = refl
kind_back kind.Replay = refl
kind_back kind.Unit = refl

-- the refusals from the seventeenth on
abbrev later : ℕ → Members → Refusal
later n ms =
    if n == 17 then MessageTooLarge (num (codes "size") ms) (num (codes "max") ms) else
    (if n == 18
    then QuotaExceeded
    (text (codes "name") ms) (num (codes "used") ms) (num (codes "size") ms) (num (codes "max") ms) else
    (if n == 19 then VpnQuotaExceeded (num (codes "used") ms) (num (codes "size") ms) (num (codes "max") ms) else
    (if n == 20 then BindLimit (num (codes "bound") ms) (num (codes "max") ms) else
    (if n == 21 then UnknownFlow (num (codes "flow") ms) else
    (if n == 22 then NotHeld (num (codes "copy") ms) else
    (if n == 23 then ReplayActive (num (codes "replay") ms) else
    (if n == 24 then NoReplay else
    (if n == 25 then LogDisabled else
    (if n == 26 then NotInLog (num (codes "first") ms) (num (codes "last") ms) else
    IdsSpent (kind_of (text (codes "kind") ms)))))))))))

-- the refusal of a number, with the values that members show
abbrev numbered : ℕ → Members → Refusal
numbered n ms =
    if n == 1 then BadRequest (num (codes "at") ms) else
    (if n == 2 then DirectMode else
    (if n == 3 then BadTopic (num (codes "at") ms) else
    (if n == 4 then BadSubscription (num (codes "at") ms) else
    (if n == 5 then BadSelector (num (codes "at") ms) else
    (if n == 6 then BadAttribute (text (codes "name") ms) else
    (if n == 7 then UnknownEndpoint (text (codes "name") ms) else
    (if n == 8 then EndpointExists (text (codes "name") ms) else
    (if n == 9 then EndpointLimit (num (codes "max") ms) else
    (if n == 10 then NoAccess (permission_of (text (codes "need") ms)) (permission_of (text (codes "has") ms)) else
    (if n == 11 then InUse (num (codes "flows") ms) (num (codes "copies") ms) else
    (if n == 12 then SubscriptionExists else
    (if n == 13 then SubscriptionLimit (num (codes "max") ms) else
    (if n == 14 then UnknownSubscription else
    (if n == 15 then IngressDisabled (text (codes "name") ms) else
    (if n == 16 then EgressDisabled (text (codes "name") ms) else later n ms)))))))))))))))

abbrev pub refusal_of : Members → Refusal
refusal_of ms = numbered (num (codes "no") ms) ms

pub refusal_back : (r : Refusal) → refusal_of (fields (refusal_data r)) ≡ r
refusal_back (BadRequest at) = refl
refusal_back DirectMode = refl
refusal_back (BadTopic at) = refl
refusal_back (BadSubscription at) = refl
refusal_back (BadSelector at) = refl
refusal_back (BadAttribute name) = refl
refusal_back (UnknownEndpoint name) = refl
refusal_back (EndpointExists name) = refl
refusal_back (EndpointLimit most) = refl
refusal_back (NoAccess need has) = ap₂ NoAccess (permission_back need) (permission_back has)
refusal_back (InUse flows copies) = refl
refusal_back SubscriptionExists = refl
refusal_back (SubscriptionLimit most) = refl
refusal_back UnknownSubscription = refl
refusal_back (IngressDisabled name) = refl
refusal_back (EgressDisabled name) = refl
refusal_back (MessageTooLarge size most) = refl
refusal_back (QuotaExceeded name used size most) = refl
refusal_back (VpnQuotaExceeded used size most) = refl
refusal_back (BindLimit bound most) = refl
refusal_back (UnknownFlow flow) = refl
refusal_back (NotHeld copy) = refl
refusal_back (ReplayActive replay) = refl
refusal_back NoReplay = refl
refusal_back LogDisabled = refl
refusal_back (NotInLog first last) = refl
refusal_back (IdsSpent kind) = ap IdsSpent (kind_back kind)
