use Rattle.std.proofs.Common.{◌≡◌, ◌-◌, length, arith, rules}
use Rattle.sp_message.specs.MessageReading.{message_at}
use Rattle.sp_message.proofs.OneByOne.{not_one}
use Rattle.sp_message.proofs.OneSpelling.{begins, none_begins}
use Rattle.sp_message.proofs.message.Message.read.Goals as goal

pub returns-in-Ok-clause-read : goal.returns-in-Ok-clause-read
returns-in-Ok-clause-read c =
    let len : c.saturating_sub.result ≡ length c.args.bytes.now - length c.in-Ok.rest.now = search rules in
    begins c.args.bytes.now c.in-Ok.rest.now c.in-Ok.message c.saturating_sub.result (λ i. omega (arith, c.type_inv.bytes i)) c.in-Ok.ensures len

pub returns-in-Err-clause-none : goal.returns-in-Err-clause-none
returns-in-Err-clause-none c = λ h m len is. none_begins c.args.bytes.now m len (not_one c.in-Err.e (message_at c.args.bytes.now) h c.in-Err.ensures) is
