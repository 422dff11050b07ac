-- Selectors in the fields of an object.
use Rattle.std.specs.Prelude.{ℕ, List, Option, Some, None, Result, Ok, option_map}
use Rattle.sp_base.specs.declared.refusal.Refusal.{Refusal}
use Rattle.sp_base.specs.declared.refusal.Refusal.TheVariants.{BadSelector}
use Rattle.sp_selector.specs.Takes.{selector_fault}
use Rattle.sp_base.specs.Parts.{unless, and_then}

-- the selector that a text is, unless it is bad
abbrev pub selector_of : List ℕ → Result (List ℕ) Refusal
selector_of text = unless (option_map BadSelector (selector_fault text)) text

-- the one that a text is, where there is a text
abbrev pub selector_from : Option (List ℕ) → Result (Option (List ℕ)) Refusal
selector_from None = Ok None
selector_from (Some text) = and_then (selector_of text) (λ selector. Ok (Some selector))
