use Rattle.std.proofs.Common.{sym, ap, ◌∙◌}
use Rattle.std.specs.Option.{option_map}
use Rattle.sp_base.specs.declared.refusal.Refusal.TheVariants.{BadSubscription}
use Rattle.sp_json.specs.Subscriptions.{subscription_from}
use Rattle.sp_base.specs.Parts.{unless}
use Rattle.sp_json.proofs.subscriptions.subscription_from.Goals as goal

pub returns-in-Err-Bad : goal.returns-in-Err-Bad
returns-in-Err-Bad c =
    ap subscription_from (sym c.as_bytes.ensures.value)
    ∙ ap (λ fault. unless (option_map BadSubscription fault) c.as_bytes.result.now)
    ((c.in-Err-Bad.ensures.bad c.in-Err-Bad.at).0 cc)
