use Rattle.std.proofs.Common.{sym, ap}
use Rattle.std.specs.Option.{option_map}
use Rattle.sp_base.specs.Parts.{unless}
use Rattle.sp_base.specs.declared.refusal.Refusal.TheVariants.{BadTopic}
use Rattle.sp_message.specs.declared.message.Dest.TheVariants.{Topic}
use Rattle.sp_rest.proofs.publish.destination.topic_from.Goals as goal

pub returns-in-Err-Bad : goal.returns-in-Err-Bad
returns-in-Err-Bad c =
    sym (ap (λ fault. unless (option_map BadTopic fault) (Topic c.args.text.now)) ((c.in-Err-Bad.ensures.bad c.in-Err-Bad.at).0 cc))
