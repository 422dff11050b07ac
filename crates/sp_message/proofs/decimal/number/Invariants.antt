use Rattle.std.proofs.Common.{◌≡◌, ◌≤◌, drop}
use Rattle.std.specs.List.{fold}
use Rattle.sp_message.specs.Decimal.{with_digit}
use Rattle.sp_message.proofs.decimal.number.Given as goal

abbrev pub invariant-loop-b : goal.invariant-loop-b
invariant-loop-b l = record {
  rest : fold with_digit l.n (drop l.b-index l.text) ≡ fold with_digit 0 l.text;
  few : l.n ≤ 9223372036854775807;
}
