use Rattle.std.proofs.lemmas.Str.{is_utf8-from_IsUtf8}
use Rattle.sp_json.proofs.PayloadLemmas.{no_text}
use Rattle.sp_json.proofs.payloads.as_text.Goals as goal

pub returns-in-Ok-clause-text : goal.returns-in-Ok-clause-text
returns-in-Ok-clause-text c = (c.in-Ok.ensures.cases.0, is_utf8-from_IsUtf8 c.args.bytes.now c.in-Ok.ensures.cases.1)

pub returns-in-Err-clause-none : goal.returns-in-Err-clause-none
returns-in-Err-clause-none c = no_text c.args.bytes.now c.in-Err.ensures.cases.0
