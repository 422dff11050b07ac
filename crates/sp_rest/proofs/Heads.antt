-- What follows doesn't change the head, so what breaks a limit breaks it for good.
use Rattle.std.proofs.Common.{◌≡◌, ℕ, ◌<◌, ◌≤◌, List, ◌++◌, length, take, drop, map, sym, ap, ◌∙◌, arith, take-append-drop, refl, Some, None}
use Rattle.std.proofs.lemmas.List.{take-append-le, take_at, length-map}
use Rattle.httparse.specs.Grammar.{RequestHead, ReadsRequest, print_request, HasNoRequest}
use Rattle.httparse.specs.Spans.{name_and_value, RequestOverflows, IsRequestAt, header_bytes}
use Rattle.httparse.specs.declared.spans.HeaderSpan.{HeaderSpan}
use Rattle.httparse.specs.declared.spans.RequestSpans.{RequestSpans}
use Rattle.httparse.proofs.GrammarLemmas.{request_prefix_free}
use Rattle.sp_rest.specs.Wire.Request.{body_length}
use Rattle.sp_rest.specs.Wire.Heads.{NeverHead, IsHeadAt}

-- a whole head that is too long
pub too_long : (bytes : List ℕ) (h : RequestHead) (r : List ℕ) → ReadsRequest bytes h r → 8192 < length (print_request h) → NeverHead bytes
too_long bytes h r x long more k len q y =
    let same = request_prefix_free bytes more h k r q x y.reads in
    let sized : length (print_request h) ≡ length (print_request k) = ap (λ (g : RequestHead). length (print_request g)) same.0 in
    let short = y.short in
    omega arith

-- a whole head that gives no length
pub no_length : (bytes : List ℕ) (h : RequestHead) (r : List ℕ) → ReadsRequest bytes h r
    → body_length (map name_and_value h.fields) ≡ None → NeverHead bytes
no_length bytes h r x none more k len q y =
    let same = request_prefix_free bytes more h k r q x y.reads in
    let both : body_length (map name_and_value h.fields) ≡ body_length (map name_and_value k.fields) =
    ap (λ (g : RequestHead). body_length (map name_and_value g.fields)) same.0 in
    let some = y.body in
    absurd (cc)

-- so many bytes without a head
pub none_yet : (bytes : List ℕ) → HasNoRequest bytes → 8192 ≤ length bytes → NeverHead bytes
none_yet bytes none long more k len q y =
    let p = print_request k in
    let n = length p in
    let short : n ≤ length bytes = let s = y.short in omega arith in
    let front : take n bytes ≡ p = sym (take-append-le n bytes more short) ∙ ap (take n) y.reads.1 ∙ take_at p q n refl in
    none k (drop n bytes) (y.reads.0, sym (take-append-drop n bytes) ∙ ap (λ t. t ++ drop n bytes) front)

-- more fields than there is room for
pub too_many : (bytes : List ℕ) → RequestOverflows 64 bytes → NeverHead bytes
too_many bytes over more k len q y =
    let most = over more k q y.reads in
    let few = y.few in
    omega arith

-- the spans of a head, as the head that is asked for
pub head_at : (bytes : List ℕ) (headers : List HeaderSpan) (spans : RequestSpans) (h : RequestHead) (len : ℕ)
    → IsRequestAt bytes headers spans h → spans.len ≤ 8192 → length (take spans.headers headers) ≤ 64
    → body_length (map (header_bytes bytes) (take spans.headers headers)) ≡ Some len → IsHeadAt bytes headers spans len
head_at bytes headers spans h len at short few body = (
  h,
  record {
    reads = at.reads;
    short = let e = at.len in omega arith;
    few =
        let e : length (take spans.headers headers) ≡ length h.fields =
        sym (length-map (take spans.headers headers) (header_bytes bytes)) ∙ ap length at.fields ∙ length-map h.fields name_and_value in
        omega arith;
    body = sym (ap body_length at.fields) ∙ body;
  },
  at,
)
