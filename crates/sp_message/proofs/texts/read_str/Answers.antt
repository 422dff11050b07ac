use Rattle.std.proofs.Common.{◌≡◌, ◌∙◌, refl, ap, rules}
use Rattle.std.specs.Prelude.{Some}
use Rattle.std.specs.Str.{is_utf8}
use Rattle.sp_message.specs.Decoding.{text_at}
use Rattle.sp_message.specs.MessageReading.{utf8_at}
use Rattle.sp_message.proofs.TestedTexts.{not_utf8, passed, refused, utf8_is}
use Rattle.sp_message.proofs.texts.read_str.Goals as goal

pub returns-in_ok-copy_of-in-Ok : goal.returns-in_ok-copy_of-in-Ok
unfolding utf8_at
returns-in_ok-copy_of-in-Ok c =
    let text = c.in_ok-text.text.now in
    let whole = passed is_utf8 c.args.bytes.now text c.in_ok-text.rest.now c.in_ok-text.ensures (utf8_is text c.in-Ok.ensures.cases.1) in
    let same : text ≡ c.in_ok-copy_of-in-Ok.field-0 = search rules in
    whole ∙ ap (λ s. Some (s, c.in_ok-text.rest.now)) same

pub returns-in-Err : goal.returns-in-Err
unfolding utf8_at
returns-in-Err c =
    let text = c.in_ok-text.text.now in
    refused is_utf8 c.args.bytes.now text c.in_ok-text.rest.now c.in_ok-text.ensures (not_utf8 text c.in-Err.ensures.cases.0)
