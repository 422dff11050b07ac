use Rattle.sp_config.specs.Attributes.{quota_of}
use Rattle.sp_copies.specs.History.{used_bytes}
use Rattle.sp_endpoint.specs.Endpoint.{EndpointView}
use Rattle.sp_ending.proofs.Reaching.{used_now}
use Rattle.std.proofs.Common.{ap, ℕ, ◌∙◌}
use Rattle.sp_ending.proofs.draft.Draft.target.Goals as goal

pub returns : goal.returns
returns c L K records reaches =
    let is = c.queue.view_is in
    let number = ap (λ (e : EndpointView). e.number) c.queue.view_is in
    let used = c.used-2.ensures
    ∙ (used_now L K c.args.self.now reaches c.queue.inside.number c.used.result (c.used.ensures.value L.copies records)
    ∙ ap (λ (n : ℕ). used_bytes K.copies n) number) in
    λ i. record {
      endpoint = number i;
      ingress = (c.ingress_enabled.ensures ∙ ap (λ (e : EndpointView). e.attributes.ingress_enabled) is) i;
      used = used i;
      max = (c.quota_bytes.ensures ∙ ap (λ (e : EndpointView). quota_of e.attributes) is) i;
    }
