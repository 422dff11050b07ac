-- Where a message is sent.
use Rattle.std.specs.Prelude.{ℕ, List, Result, option_map}
use Rattle.sp_base.specs.declared.refusal.Refusal.{Refusal}
use Rattle.sp_base.specs.declared.refusal.Refusal.TheVariants.{BadTopic}
use Rattle.sp_base.specs.Parts.{unless}
use Rattle.sp_base.specs.Topic.{topic_fault}
use Rattle.sp_message.specs.declared.message.Dest.{Dest}
use Rattle.sp_message.specs.declared.message.Dest.TheVariants.{Topic}

-- the topic that a text is, or why it is none
abbrev pub topic_from : List ℕ → Result Dest Refusal
topic_from text = unless (option_map BadTopic (topic_fault text)) (Topic text)
