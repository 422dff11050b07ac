use Rattle.std.proofs.Common.{◌≡◌, ◌≤◌, true, drop}
use Rattle.std.specs.Str.{all_ascii_digits}
use Rattle.std.specs.Str.Parse.{digits_value, digits_value_after}
use Rattle.sp_rest.proofs.wire.length.number_in.Given as goal

abbrev pub invariant-loop-byte : goal.invariant-loop-byte
invariant-loop-byte l = record {
  value_is : digits_value_after 10 l.n (drop l.byte-index l.value) ≡ digits_value 10 l.value;
  small : l.n ≤ 8388608;
  digits : all_ascii_digits (drop l.byte-index l.value) ≡ true;
}
