use Rattle.std.proofs.Common.{◌≡◌, ap, rules, false}
use Rattle.std.specs.Option.{is_none}
use Rattle.sp_base.specs.Topic.{topic_fault}
use Rattle.sp_message.specs.MessageReading.{topic_at}
use Rattle.sp_message.proofs.TestedTexts.{refused}
use Rattle.sp_message.proofs.texts.read_topic.Goals as goal

pub returns-in-Err-Bad : goal.returns-in-Err-Bad
unfolding topic_at
returns-in-Err-Bad c =
    let text = c.in_ok-text.text.now in
    let bad : is_none (topic_fault text) ≡ false = ap is_none ((c.read.ensures.bad c.in-Err-Bad.field-0-0).0 (search rules)) in
    refused (λ t. is_none (topic_fault t)) c.args.bytes.now text c.in_ok-text.rest.now c.in_ok-text.ensures bad
