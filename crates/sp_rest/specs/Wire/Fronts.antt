-- By cases on what the front of some bytes is, as far as the head goes.
use Rattle.std.specs.Prelude.{ℕ, ⊤}
use Rattle.httparse.specs.declared.spans.RequestSpans.{RequestSpans}
use Rattle.sp_rest.specs.declared.wire.head.Front.{Front}
use Rattle.sp_rest.specs.declared.wire.head.Front.TheVariants.{Head, Unfinished, Never}

abbrev pub IfHead : Front → (RequestSpans → ℕ → Type 0) → Type 0
IfHead (Head spans body) P = P spans body
IfHead Unfinished P = ⊤
IfHead Never P = ⊤

abbrev pub OnUnfinished : Front → Type 0 → Type 0
OnUnfinished (Head spans body) P = ⊤
OnUnfinished Unfinished P = P
OnUnfinished Never P = ⊤

abbrev pub OnNever : Front → Type 0 → Type 0
OnNever (Head spans body) P = ⊤
OnNever Unfinished P = ⊤
OnNever Never P = P
