-- Which responses accept what was posted (RFC 9112, section 4).
use Rattle.std.specs.Prelude.{ℕ, ◌<◌, ◌≤◌, List, length}
use Rattle.httparse.specs.Grammar.{ResponseHead, ReadsResponse, status_code}

-- the bytes begin with a whole head of at most 64 fields and a status of 200 to 299
pub record Accepts (bytes : List ℕ) : Type 0 where
  pub h : ResponseHead
  pub rest : List ℕ
  pub reads : ReadsResponse bytes h rest
  pub few : length h.fields ≤ 64
  pub least : 200 ≤ status_code h
  pub most : status_code h < 300
