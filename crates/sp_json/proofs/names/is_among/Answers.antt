use Rattle.std.proofs.Common.{◌∙◌}
use Rattle.std.specs.Prelude.{bytes_eq}
use Rattle.sp_json.proofs.Texts.{any_of_texts}
use Rattle.sp_json.proofs.names.is_among.Goals as goal

pub returns : goal.returns
returns c = c.any_is.ensures ∙ any_of_texts (λ name. bytes_eq name c.args.key.now) c.args.names.now
