-- By cases on what was cut.
use Rattle.std.specs.Prelude.{ℕ, ⊤}
use Rattle.sp_rest.specs.Wire.Parts.{Request}
use Rattle.sp_rest.specs.declared.wire.request.Cut.{Cut}
use Rattle.sp_rest.specs.declared.wire.request.Cut.TheVariants.{Whole, Partial, Hopeless}

-- P of the request and its length, where one is whole
abbrev pub IfWhole : Cut → (Request → ℕ → Type 0) → Type 0
IfWhole (Whole request used) P = P request used
IfWhole Partial P = ⊤
IfWhole Hopeless P = ⊤

-- P, where more has to come
abbrev pub OnPartial : Cut → Type 0 → Type 0
OnPartial (Whole request used) P = ⊤
OnPartial Partial P = P
OnPartial Hopeless P = ⊤

-- P, where no request can come
abbrev pub OnHopeless : Cut → Type 0 → Type 0
OnHopeless (Whole request used) P = ⊤
OnHopeless Partial P = ⊤
OnHopeless Hopeless P = P
