use Rattle.std.proofs.Common.{◌≡◌, ◌∙◌, ◌++◌, ℕ, List, ap, ap₂, append_assoc}
use Rattle.sp_message.specs.Encoding.{number_bytes}
use Rattle.sp_unit.proofs.event_codec.write_pull.Goals as goal

two : (old mid new : List ℕ) (k l m n : ℕ) → k ≡ m → l ≡ n → mid ≡ old ++ number_bytes k → new ≡ mid ++ number_bytes l
    → new ≡ old ++ (number_bytes m ++ number_bytes n)
two old mid new k l m n p q h e =
    e ∙ (ap (λ (w : List ℕ). w ++ number_bytes l) h
    ∙ (append_assoc old (number_bytes k) (number_bytes l) ∙ ap₂ (λ a b. old ++ (number_bytes a ++ number_bytes b)) p q))

pub returns-clause-bytes : goal.returns-clause-bytes
returns-clause-bytes c =
    two c.args.into.now.items c.write_number.new.into.items c.write_number-2.new.into.items c.value.result
    c.value-2.result c.args.flow c.args.count c.value.ensures.value c.value-2.ensures.value
    c.in_ok-write_number.ensures c.in_ok-write_number-2.ensures
