use Rattle.std.proofs.Common.{◌≡◌, ap, rules, false}
use Rattle.std.specs.Option.{is_none}
use Rattle.sp_selector.specs.Takes.{selector_fault}
use Rattle.sp_message.specs.Decoding.{text_that_at}
use Rattle.sp_message.proofs.TestedTexts.{refused}
use Rattle.sp_unit.specs.UnitBytes.{is_selector}
use Rattle.sp_unit.specs.UnitReading.{selector_at}
use Rattle.sp_unit.proofs.texts.read_selector.Goals as goal

pub returns-in-Err-Bad : goal.returns-in-Err-Bad
unfolding selector_at text_that_at
returns-in-Err-Bad c =
    let text = c.in_ok-text.text.now in
    let bad : is_none (selector_fault text) ≡ false =
    ap is_none (c.read.ensures.bad c.in-Err-Bad.field-0-0 (search rules)) in
    refused is_selector c.args.bytes.now text c.in_ok-text.rest.now c.in_ok-text.ensures bad
