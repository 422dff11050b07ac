use Rattle.std.proofs.Common.{◌∙◌}
use Rattle.serde_json.specs.View.{view}
use Rattle.sp_json.specs.Fields.{has_key}
use Rattle.sp_json.proofs.Texts.{any_of_texts}
use Rattle.sp_json.proofs.names.has_any.Goals as goal

pub returns : goal.returns
returns c = c.any_is_in.ensures ∙ any_of_texts (λ name. has_key name (view c.args.value.now)) c.args.names.now
