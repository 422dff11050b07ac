-- Codes of responses have three digits.
use Rattle.std.proofs.Common.{ℕ, arith, IsTrue}
use Rattle.http.specs.StatusCode.{IsStatusCode}
use Rattle.sp_rest.specs.Wire.Codes.{is_response_code}

pub three_digits : (n : ℕ) → IsTrue (is_response_code n) → IsStatusCode n
three_digits n known = grind arith
