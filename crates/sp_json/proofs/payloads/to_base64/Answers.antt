use Rattle.sp_json.specs.Payloads.{base64_of}
use Rattle.sp_json.proofs.payloads.to_base64.Goals as goal

pub returns : goal.returns
unfolding base64_of
returns c = c.encode.ensures.text
