-- What the front of some bytes is, as far as the head goes.
use Rattle.std.specs.Prelude.{ℕ, List, ◌++◌, drop}
use Rattle.httparse.specs.Grammar.{RequestHead}
use Rattle.httparse.specs.Spans.{IsRequestAt}
use Rattle.httparse.specs.declared.spans.HeaderSpan.{HeaderSpan}
use Rattle.httparse.specs.declared.spans.RequestSpans.{RequestSpans}
use Rattle.sp_rest.specs.Wire.Request.{IsHead}

-- the spans are those of a head within the limits, which gives a body of this length
abbrev pub IsHeadAt : List ℕ → List HeaderSpan → RequestSpans → ℕ → Type 0
IsHeadAt bytes headers spans len =
    (h : RequestHead) × IsHead bytes h len (drop spans.len bytes) × IsRequestAt bytes headers spans h

-- no bytes can follow that make a prefix a head within the limits
abbrev pub NeverHead : List ℕ → Type 0
NeverHead bytes =
    (more : List ℕ) (h : RequestHead) (len : ℕ) (rest : List ℕ) → ¬ (IsHead (bytes ++ more) h len rest)
