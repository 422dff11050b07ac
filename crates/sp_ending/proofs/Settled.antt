-- A held copy that is settled.
use Rattle.sp_copies.specs.declared.made.MadeCopy.{MadeCopy}
use Rattle.sp_ending.specs.Ends.{MayAll, MayEnd, MayReturn}
use Rattle.sp_ending.specs.Plans.{first_fate}
use Rattle.sp_event.specs.declared.answer.CopyFate.{CopyFate}
use Rattle.sp_copies.specs.declared.closed.Fate.TheVariants as fates
use Rattle.sp_ledger.specs.Changes.{Change}
use Rattle.sp_ledger.specs.Endings.{closed_by, fate_by}
use Rattle.sp_ledger.specs.Ledger.{Ledger}
use Rattle.std.proofs.Common.{refl}
use Rattle.std.proofs.lemmas.List.Elements.{All-weaker}
use Rattle.std.specs.List.{cons_option}
use Rattle.std.specs.Prelude.{List, None, Option, Some, [], option_map, unwrap_or, ◌≡◌}

-- copies that may be given back may end
pub end_too : (list : List MadeCopy) (L : Ledger) → MayAll MayReturn list L → MayAll MayEnd list L
end_too list L may = record {
  sound = may.sound;
  each = All-weaker (MayReturn L) (MayEnd L) (λ c both. both.0) list may.each;
  apart = may.apart;
}

-- what is told of one change
pub told_of_one : (change : Change) (L : Ledger) → first_fate (cons_option (closed_by change L) []) ≡ fate_by change L
told_of_one change L = one (closed_by change L)
  where
    one : (o : Option CopyFate) →
        first_fate (cons_option o []) ≡ unwrap_or (option_map (λ (t : CopyFate). t.fate) o) fates.Spooled
    one None = refl
    one (Some t) = refl
