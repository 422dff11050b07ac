use Rattle.sp_copies.specs.History.{attempts_of}
use Rattle.sp_copies.specs.declared.held.CopyAttempts.{CopyAttempts}
use Rattle.sp_plan.proofs.Delivered.{attempts_bounded}
use Rattle.std.proofs.Common.{arith, ◌≡◌}
use Rattle.std.proofs.lemmas.List.Elements.{All-weaker}
use Rattle.std.specs.Prelude.{◌+◌, ◌<◌, ◌≤◌, ◌^◌}
use Rattle.sp_plan.proofs.delivering.attempts.Goals as goal

pub returns-clause-bound : goal.returns-clause-bound
returns-clause-bound c =
    let few = c.requires.few in
    let is : c.attempts.result ≡ attempts_of few.0.attempts c.args.copy = c.attempts.ensures few.0 few.1 in
    let all = All-weaker (λ (a : CopyAttempts). a.count ≤ 2 ^ 62) (λ (a : CopyAttempts). a.count < 2 ^ 62 + 1)
    (λ a le. omega (arith, le)) few.0.attempts few.2 in
    let below = attempts_bounded few.0.attempts (2 ^ 62 + 1) (omega arith) all c.args.copy in
    omega (arith, is, below)
