use Rattle.std.proofs.Common.{sym, ap, ◌∙◌}
use Rattle.std.specs.Option.{option_map}
use Rattle.sp_base.specs.declared.refusal.Refusal.TheVariants.{BadTopic}
use Rattle.sp_message.specs.declared.message.Dest.TheVariants.{Topic}
use Rattle.sp_base.specs.Parts.{unless}
use Rattle.sp_message.specs.Destination.{topic_from}
use Rattle.sp_flowline.proofs.publishes.topic_from.Goals as goal

pub returns-in-Err-Bad : goal.returns-in-Err-Bad
returns-in-Err-Bad c =
    sym (ap topic_from (sym c.as_bytes.ensures.value)
    ∙ ap (λ fault. unless (option_map BadTopic fault) (Topic c.as_bytes.result.now))
    ((c.in-Err-Bad.ensures.bad c.in-Err-Bad.at).0 cc))
