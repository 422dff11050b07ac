use Rattle.std.proofs.Common.{sym, ap}
use Rattle.std.specs.Result.{result_ok}
use Rattle.sp_json.specs.Payloads.{from_base64}
use Rattle.sp_json.proofs.payloads.from_base64.Goals as goal

pub returns-in-Ok : goal.returns-in-Ok
unfolding from_base64
returns-in-Ok c = rw c.from_vec.ensures (sym (ap result_ok c.in-Ok.ensures.ok))

pub returns-in-Err-DecodeError : goal.returns-in-Err-DecodeError
unfolding from_base64
returns-in-Err-DecodeError c =
    sym (ap result_ok (rw c.in-Err-DecodeError.field-0-is at c.in-Err-DecodeError.ensures.err))
