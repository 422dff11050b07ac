-- What the fields of a request ask of endpoints.
use Rattle.std.specs.Prelude.{◌^◌, Option, Result, Ok, option_map, option_and_then, codes}
use Rattle.serde_json.specs.Data.{Data}
use Rattle.sp_base.specs.declared.refusal.Refusal.{Refusal}
use Rattle.sp_config.specs.declared.kind.EndpointKind.TheVariants.{Queue}
use Rattle.sp_config.specs.Choices.{endpoint_kind_word, endpoint_kinds}
use Rattle.sp_event.specs.declared.request.Event.{Event}
use Rattle.sp_event.specs.declared.request.Event.TheVariants.{Provision, Deprovision, Change, DeleteCopies}
use Rattle.sp_event.specs.declared.request.Event.TheVariants.{Subscribe, Unsubscribe}
use Rattle.sp_json.specs.Attributes.{settings_at, optional_settings_at}
use Rattle.sp_json.specs.Fields.{choice_or, name_at, optional_ranged_at}
use Rattle.sp_base.specs.Parts.{formed, and_then}
use Rattle.sp_json.specs.Subscriptions.{subscription_at}

-- a new endpoint of a name and a kind: a queue, where none is named
abbrev pub provision_in : Data → Result Event Refusal
provision_in d =
    and_then (formed (name_at (codes "endpoint") d)) (λ endpoint.
    and_then (formed (choice_or endpoint_kind_word endpoint_kinds Queue (codes "kind") d)) (λ kind.
    and_then (optional_settings_at kind (codes "attributes") d) (λ settings.
    Ok (Provision endpoint kind settings))))

-- the end of an endpoint
abbrev pub deprovision_in : Data → Option Event
deprovision_in d = option_map Deprovision (name_at (codes "endpoint") d)

-- other values for attributes; the endpoint's kind isn't known, and a queue may have every value in its range
abbrev pub change_in : Data → Result Event Refusal
change_in d =
    and_then (formed (name_at (codes "endpoint") d)) (λ endpoint.
    and_then (settings_at Queue (codes "attributes") d) (λ settings.
    Ok (Change endpoint settings)))

-- a subscription of an endpoint, and its end
abbrev pub subscribe_in : Data → Result Event Refusal
subscribe_in d =
    and_then (formed (name_at (codes "endpoint") d)) (λ endpoint.
    and_then (subscription_at (codes "subscription") d) (λ subscription.
    Ok (Subscribe endpoint subscription)))

abbrev pub unsubscribe_in : Data → Result Event Refusal
unsubscribe_in d =
    and_then (formed (name_at (codes "endpoint") d)) (λ endpoint.
    and_then (subscription_at (codes "subscription") d) (λ subscription.
    Ok (Unsubscribe endpoint subscription)))

-- the end of copies of an endpoint: of the one that is named, or of those that are there
abbrev pub delete_in : Data → Option Event
delete_in d =
    option_and_then (λ endpoint.
    option_map (DeleteCopies endpoint) (optional_ranged_at 0 (2 ^ 62) (codes "copy") d)) (name_at (codes "endpoint") d)
