-- The bytes of a response (RFC 9112, section 4).
use Rattle.std.specs.Prelude.{ℕ, List, [], ◌∷◌, ◌++◌, length, codes, decimal, unwrap_or}
use Rattle.http.specs.StatusCode.{reason_phrase}

-- CR LF
abbrev pub line_end : List ℕ
line_end = 13 ∷ 10 ∷ []

-- the phrase that goes with a status code
abbrev pub phrase_of : ℕ → List ℕ
phrase_of status = unwrap_or (reason_phrase status) []

-- what stands before a body of so many bytes of JSON
abbrev pub head_of : ℕ → List ℕ → ℕ → List ℕ
head_of status phrase len =
    codes "HTTP/1.1 " ++ decimal status ++ codes " " ++ phrase ++ line_end
    ++ codes "Content-Type: application/json" ++ line_end
    ++ codes "Content-Length: " ++ decimal len ++ line_end
    ++ line_end

-- a response with a body of JSON
abbrev pub response : ℕ → List ℕ → List ℕ
response status body = head_of status (phrase_of status) (length body) ++ body
