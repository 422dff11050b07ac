-- Which short texts could make some bytes a head.
use Rattle.std.specs.Prelude.{ℕ, List, ◌++◌, codes}
use Rattle.httparse.specs.Grammar.{RequestHead}
use Rattle.sp_rest.specs.Wire.Request.{IsHead}

-- a head within the limits is there
abbrev pub HasHead : List ℕ → Type 0
HasHead bytes = (h : RequestHead) × (len : ℕ) × (rest : List ℕ) × IsHead bytes h len rest

-- with these bytes behind them, no prefix is a head within the limits
abbrev pub IsUnserved : List ℕ → List ℕ → Type 0
IsUnserved bytes more = ¬ (HasHead (bytes ++ more))

-- none of the texts that end the fields serves
pub record NoFieldsEnd (bytes : List ℕ) : Type 0 where
  pub end : IsUnserved bytes (codes "\n")
  pub two_ends : IsUnserved bytes (codes "\n\n")
  pub zero : IsUnserved bytes (codes "0\n\n")
  pub colon : IsUnserved bytes (codes ":\n\n")
  pub letter : IsUnserved bytes (codes "x:\n\n")

-- none of the texts that go on within the version serves
pub record NoVersionEnd (bytes : List ℕ) : Type 0 where
  pub from_0 : IsUnserved bytes (codes "HTTP/1.1\n\n")
  pub from_1 : IsUnserved bytes (codes "TTP/1.1\n\n")
  pub from_2 : IsUnserved bytes (codes "TP/1.1\n\n")
  pub from_3 : IsUnserved bytes (codes "P/1.1\n\n")
  pub from_4 : IsUnserved bytes (codes "/1.1\n\n")
  pub from_5 : IsUnserved bytes (codes "1.1\n\n")
  pub from_6 : IsUnserved bytes (codes ".1\n\n")
  pub from_7 : IsUnserved bytes (codes "1\n\n")

-- none of the texts that begin before the target serves
pub record NoTarget (bytes : List ℕ) : Type 0 where
  pub in_method : IsUnserved bytes (codes " / HTTP/1.1\n\n")
  pub before : IsUnserved bytes (codes "A / HTTP/1.1\n\n")
  pub in_line_end : IsUnserved bytes (codes "\nA / HTTP/1.1\n\n")
