use Rattle.std.proofs.Common.{rules, ◌≡◌, inr, true, false}
use Rattle.sp_rest.specs.Wire.Targets.{is_in_target}
use Rattle.sp_rest.specs.Wire.Completions.{NoFieldsEnd, NoVersionEnd, NoTarget}
use Rattle.sp_rest.proofs.Targets.{ends_in_target, tests_target}
use Rattle.sp_rest.proofs.Completions.{never_by}
use Rattle.sp_rest.proofs.Requests.{never_request}
use Rattle.sp_rest.proofs.wire.completion.may_become.Goals as goal

pub returns-then-ends_in_target : goal.returns-then-ends_in_target
returns-then-ends_in_target c =
    let is : is_in_target c.args.bytes.now ≡ true = search rules in
    inr (record { ends = ends_in_target c.args.bytes.now c.requires.open_yet is; short = c.requires.short })

pub returns : goal.returns
returns c =
    let other : is_in_target c.args.bytes.now ≡ false = search rules in
    let fields : NoFieldsEnd c.args.bytes.now = search rules in
    let version : NoVersionEnd c.args.bytes.now = search rules in
    let target : NoTarget c.args.bytes.now = search rules in
    never_request c.args.bytes.now (never_by c.args.bytes.now c.requires.unread (λ ends. let is = tests_target c.args.bytes.now ends in
    absurd (cc (is, other))) fields version target)
