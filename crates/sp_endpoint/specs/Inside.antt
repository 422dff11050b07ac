-- How contracts see an endpoint's fields.
use Rattle.sp_endpoint.specs.declared.endpoint.Endpoint.TheInside.{Inside}
use Rattle.sp_endpoint.specs.Endpoint.{EndpointView}

-- the fields, and of the subscriptions their texts
abbrev pub view_of : Inside → EndpointView
view_of e = record {
  number = e.number;
  name = e.name;
  kind = e.kind;
  attributes = e.attributes;
  subscriptions = e.subscriptions.items;
  topic = e.topic;
  selector = e.selector;
}
