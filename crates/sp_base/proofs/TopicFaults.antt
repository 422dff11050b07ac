-- The reasons for which bytes are no topic, in their order.
use Rattle.std.proofs.Common.{◌≡◌, ◌∙◌, ◌<◌, ◌≤◌, ℕ, length, List, ap, arith, Some, IsUtf8}
use Rattle.std.specs.Option.{option_or}
use Rattle.std.specs.Str.Lossy.{utf8_valid_len}
use Rattle.std.proofs.lemmas.Bool.{lt-ltb, le-ltb, cond-true, cond-false}
use Rattle.std.proofs.lemmas.Bool.Decides.{nat_tests}
use Rattle.std.proofs.lemmas.Str.{utf8_valid_len-IsUtf8}
use Rattle.sp_base.specs.Topic.{topic_fault, first_bad_byte, slash_after, IsTopic}

pub fault_empty : (text : List ℕ) → length text ≡ 0 → topic_fault text ≡ Some 0
unfolding topic_fault
fault_empty text h = grind (arith, nat_tests)

pub fault_long : (text : List ℕ) → 250 < length text → topic_fault text ≡ Some 250
unfolding topic_fault
fault_long text h = grind (arith, nat_tests)

-- of 1 to 250 bytes
fault_of_bytes : (text : List ℕ) → 0 < length text → length text ≤ 250 → topic_fault text ≡ option_or (first_bad_byte text) (slash_after 128 text)
unfolding topic_fault
fault_of_bytes text some few = grind (arith, nat_tests)

pub fault_no_text : (text : List ℕ) → 0 < length text → length text ≤ 250 → utf8_valid_len text < length text → topic_fault text ≡ Some (utf8_valid_len text)
fault_no_text text some few short =
    fault_of_bytes text some few ∙ ap (λ first. option_or first (slash_after 128 text)) (cond-true _ _ _ (lt-ltb (utf8_valid_len text) (length text) short))

pub fault_of_text : (text : List ℕ) → 0 < length text → length text ≤ 250 → IsUtf8 text → topic_fault text ≡ slash_after 128 text
fault_of_text text some few utf8 =
    fault_of_bytes text some few ∙ ap (λ first. option_or first (slash_after 128 text)) (cond-false _ _ _ (le-ltb (utf8_valid_len text) (length text) (omega (arith, utf8_valid_len-IsUtf8 text utf8))))

pub topic_bound : (text : List ℕ) → IsTopic text → length text ≤ 250
unfolding topic_fault
topic_bound text h = grind (arith, nat_tests)

pub topic_some : (text : List ℕ) → IsTopic text → 0 < length text
unfolding topic_fault
topic_some text h = grind (arith, nat_tests)
