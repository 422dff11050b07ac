-- What contracts see of an endpoint.
use Rattle.std.specs.Prelude.{ℕ, List, [], Option, None}
use Rattle.sp_config.specs.Attributes.{AttributesView, defaults}
use Rattle.sp_config.specs.Settings.{with_settings}
use Rattle.sp_config.specs.declared.kind.EndpointKind.{EndpointKind}
use Rattle.sp_config.specs.declared.setting.Setting.{Setting}

-- a queue or topic endpoint that is there, with the texts that a queue subscribes to, in the order in which it
-- got them, and the topic and the selector's text that a topic endpoint was bound with
pub record EndpointView : Type 0 where
  pub number : ℕ
  pub name : List ℕ
  pub kind : EndpointKind
  pub attributes : AttributesView
  pub subscriptions : List (List ℕ)
  pub topic : Option (List ℕ)
  pub selector : Option (List ℕ)

-- an endpoint with the caller's defaults but for these values, without subscriptions, topic and selector
abbrev pub new_endpoint : ℕ → List ℕ → List ℕ → EndpointKind → List Setting → EndpointView
new_endpoint number caller name kind settings = record {
  number = number;
  name = name;
  kind = kind;
  attributes = with_settings settings (defaults caller);
  subscriptions = [];
  topic = None;
  selector = None;
}
