-- Which status code an answer has.
use Rattle.std.specs.Prelude.{ℕ, Bool, if◌then◌else◌, ◌==◌}
use Rattle.sp_base.specs.declared.refusal.Refusal.{Refusal}
use Rattle.sp_base.specs.declared.refusal.Refusal.TheVariants.{BadRequest, DirectMode, BadTopic, BadSubscription, BadSelector, BadAttribute, UnknownEndpoint, EndpointExists, EndpointLimit, NoAccess, InUse, SubscriptionExists, SubscriptionLimit, UnknownSubscription, IngressDisabled, EgressDisabled, MessageTooLarge, QuotaExceeded, VpnQuotaExceeded, BindLimit, UnknownFlow, NotHeld, ReplayActive, NoReplay, LogDisabled, NotInLog, IdsSpent}
use Rattle.sp_event.specs.declared.answer.Answered.{Answered}
use Rattle.sp_event.specs.declared.answer.Answered.TheVariants.{Gave, Refused, Memory, Disk, Full}

-- a request is bad at 5 where no row of HTTP's requests serves its path and method
abbrev pub has_no_row : ℕ → Bool
has_no_row at = at == 5

-- what a refusal is told by: 400 the request is wrong, 403 it isn't allowed, 404 what it speaks
-- of isn't there, 409 it doesn't fit what is there
abbrev pub refusal_code : Refusal → ℕ
refusal_code (BadRequest at) = if has_no_row at then 404 else 400
refusal_code DirectMode = 400
refusal_code (BadTopic at) = 400
refusal_code (BadSubscription at) = 400
refusal_code (BadSelector at) = 400
refusal_code (BadAttribute name) = 400
refusal_code (UnknownEndpoint name) = 404
refusal_code (EndpointExists name) = 409
refusal_code (EndpointLimit most) = 409
refusal_code (NoAccess need has) = 403
refusal_code (InUse flows copies) = 409
refusal_code SubscriptionExists = 409
refusal_code (SubscriptionLimit most) = 409
refusal_code UnknownSubscription = 404
refusal_code (IngressDisabled name) = 403
refusal_code (EgressDisabled name) = 403
refusal_code (MessageTooLarge size most) = 400
refusal_code (QuotaExceeded name used size most) = 409
refusal_code (VpnQuotaExceeded used size most) = 409
refusal_code (BindLimit bound most) = 409
refusal_code (UnknownFlow flow) = 404
refusal_code (NotHeld copy) = 404
refusal_code (ReplayActive replay) = 409
refusal_code NoReplay = 404
refusal_code LogDisabled = 409
refusal_code (NotInLog first last) = 409
refusal_code (IdsSpent k) = 409

-- the status code of an answer
abbrev pub code_of : Answered → ℕ
code_of (Gave reply) = 200
code_of (Refused refusal index) = refusal_code refusal
code_of Memory = 503
code_of Disk = 500
code_of (Full len need most) = 507
