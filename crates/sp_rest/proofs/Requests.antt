-- Requests, from heads and bodies.
use Rattle.std.proofs.Common.{Bool, true, false, inr, append_assoc, replicate, inl, ◌-◌, [], ◌∷◌, length-append, length-take, append-nil, ◌+◌, ◌≡◌, ℕ, ◌<◌, ◌≤◌, List, ◌++◌, length, take, drop, map, sym, ap, ◌∙◌, subst, arith, take-append-drop, refl, Some}
use Rattle.std.specs.Prelude.{unwrap_or}
use Rattle.std.proofs.lemmas.List.{take_at, take_all, length-replicate, length-drop}
use Rattle.httparse.specs.Grammar.{RequestHead, ReadsRequest, print_request, HasNoRequest}
use Rattle.httparse.specs.Spans.{name_and_value}
use Rattle.httparse.proofs.GrammarLemmas.{request_unique, ReadsRequest-append}
use Rattle.sp_rest.specs.declared.wire.request.Field.{Field}
use Rattle.sp_rest.specs.Wire.Parts.{Request}
use Rattle.sp_rest.specs.Wire.Request.{IsHead, body_length, Begins, NoRequest, NeverRequest, MayBecome, IsTargetOpen, shown, IsRequestOf}
use Rattle.sp_rest.proofs.Completions.{print_size}
use Rattle.sp_rest.specs.Wire.Heads.{NeverHead}
use Rattle.sp_rest.specs.Wire.Completions.{HasHead, IsUnserved}
use Rattle.std.specs.Bool.{MatchBool}
use Rattle.sp_rest.specs.declared.wire.request.Cut.{Cut}
use Rattle.sp_rest.specs.declared.wire.request.Cut.TheVariants.{Whole, Partial, Hopeless}
use Rattle.sp_rest.specs.Wire.Cutting.{IfWhole, OnPartial, OnHopeless}

-- a head within the limits that is never there makes a request that is never there
pub never_request : (bytes : List ℕ) → NeverHead bytes → NeverRequest bytes
never_request bytes never more request used b = never more b.h (length b.body) (b.body ++ b.rest) b.head

-- without a head there is no request
pub no_request : (bytes : List ℕ) → HasNoRequest bytes → NoRequest bytes
no_request bytes none request used b = none b.h (b.body ++ b.rest) b.head.reads

-- a body that isn't all there yet makes no request
pub no_request_yet : (bytes : List ℕ) (h : RequestHead) (len : ℕ) (rest : List ℕ) → IsHead bytes h len rest
    → length rest < len → NoRequest bytes
no_request_yet bytes h len rest head cut request used b =
    let same = request_unique bytes h b.h rest (b.body ++ b.rest) head.reads b.head.reads in
    let sized : body_length (map name_and_value h.fields) ≡ body_length (map name_and_value b.h.fields) =
    ap (λ (g : RequestHead). body_length (map name_and_value g.fields)) same.0 in
    let one = head.body in
    let two = b.head.body in
    let lens : Some len ≡ Some (length b.body) = cc in
    let len_is : len ≡ length b.body = ap (λ o. unwrap_or o 0) lens in
    let rest_is : length rest ≡ length (b.body ++ b.rest) = ap length same.1 in
    omega (arith, length-append b.body b.rest)

-- a field of this name and this value
abbrev pub field_of : List ℕ × List ℕ → Field
field_of shown = record { name = shown.0; value = shown.1 }

shown_of : (pairs : List (List ℕ × List ℕ)) → map shown (map field_of pairs) ≡ pairs
shown_of [] = refl
shown_of (p ∷ pairs) = ap (λ (ps : List (List ℕ × List ℕ)). p ∷ ps) (shown_of pairs)

-- the request that a head and a body are
abbrev pub request_of : RequestHead → List ℕ → Request
request_of h body = record { method = h.method; target = h.target; fields = map field_of (map name_and_value h.fields); body = body }

-- with these bytes and those that the body lacks a request is there
pub may_become_by : (bytes s : List ℕ) (h : RequestHead) (len : ℕ) (rest : List ℕ) → IsHead (bytes ++ s) h len rest → MayBecome bytes
may_become_by bytes s h len rest head =
    let zeros = replicate len 0 in
    let behind = rest ++ zeros in
    let body = take len behind in
    let sized : length body ≡ len = omega (arith, length-append rest zeros, length-replicate {A = ℕ} len 0, length-take len behind) in
    let reads : ReadsRequest ((bytes ++ s) ++ zeros) h (body ++ drop len behind) =
    subst (ReadsRequest ((bytes ++ s) ++ zeros) h) (sym (take-append-drop len behind))
    (ReadsRequest-append (bytes ++ s) h rest zeros head.reads) in
    inl (
      s ++ zeros,
      request_of h body,
      length (print_request h) + length body,
      record {
        h = h;
        body = body;
        rest = drop len behind;
        head = record {
          reads = subst (λ (t : List ℕ). ReadsRequest t h (body ++ drop len behind)) (append_assoc bytes s zeros) reads;
          short = head.short;
          few = head.few;
          body = head.body ∙ ap (λ (n : ℕ). Some n) (sym sized);
        };
        request_is = record { method = refl; target = refl; fields = shown_of (map name_and_value h.fields); body_is = refl };
        used_is = refl;
      },
    )

-- the bytes that the body lacks can follow
pub may_become : (bytes : List ℕ) (h : RequestHead) (len : ℕ) (rest : List ℕ) → IsHead bytes h len rest → MayBecome bytes
may_become bytes h len rest head =
    may_become_by bytes [] h len rest (subst (λ (t : List ℕ). IsHead t h len rest) (sym (append-nil bytes)) head)

-- a head and all of its body are a request
pub begins : (bytes : List ℕ) (h : RequestHead) (len : ℕ) (rest : List ℕ) (request : Request) (used : ℕ)
    → IsHead bytes h len rest → len ≤ length rest
    → IsRequestOf request h (take len rest) → used ≡ length (print_request h) + len → Begins bytes request used
begins bytes h len rest request used head fits is size =
    let sized : length (take len rest) ≡ len = omega (arith, length-take len rest) in
    record {
      h = h;
      body = take len rest;
      rest = drop len rest;
      head = record {
        reads = subst (ReadsRequest bytes h) (sym (take-append-drop len rest)) head.reads;
        short = head.short;
        few = head.few;
        body = head.body ∙ ap (λ (n : ℕ). Some n) (sym sized);
      };
      request_is = is;
      used_is = omega arith;
    }

-- the parts of a head, and the bytes behind it, are a request
pub parts_begin : (bytes : List ℕ) (h : RequestHead) (place : ℕ) (request : Request)
    → IsHead bytes h (length request.body) (drop place bytes) → place ≡ length (print_request h)
    → request.method ≡ h.method → request.target ≡ h.target → map shown request.fields ≡ map name_and_value h.fields
    → take (length request.body) (drop place bytes) ≡ request.body
    → Begins bytes request (place + length request.body)
parts_begin bytes h place request head size method target fields body =
    let len : length (take (length request.body) (drop place bytes)) ≡ length request.body = ap length body in
    begins bytes h (length request.body) (drop place bytes) request (place + length request.body) head
    (omega (arith, length-take (length request.body) (drop place bytes)))
    (record { method = method; target = target; fields = fields; body_is = sym body }) (omega arith)

fields_back : (fields : List Field) → map field_of (map shown fields) ≡ fields
fields_back [] = refl
fields_back (f ∷ fields) = ap (λ (fs : List Field). f ∷ fs) (fields_back fields)

-- a head gives one length
pub one_length : (bytes : List ℕ) (h k : RequestHead) (len size : ℕ) (r q : List ℕ) → IsHead bytes h len r
    → IsHead bytes k size q → len ≡ size
one_length bytes h k len size r q x y =
    let same = request_unique bytes h k r q x.reads y.reads in
    let both : body_length (map name_and_value h.fields) ≡ body_length (map name_and_value k.fields) =
    ap (λ (g : RequestHead). body_length (map name_and_value g.fields)) same.0 in
    ap (λ o. unwrap_or o 0) (sym x.body ∙ both ∙ y.body)

-- bytes begin with one request at most
pub begins_unique : (bytes : List ℕ) (r q : Request) (m n : ℕ) → Begins bytes r m → Begins bytes q n → (r ≡ q) × (m ≡ n)
begins_unique bytes r q m n x y =
    let same = request_unique bytes x.h y.h (x.body ++ x.rest) (y.body ++ y.rest) x.head.reads y.head.reads in
    let sized : length x.body ≡ length y.body = one_length bytes x.h y.h _ _ _ _ x.head y.head in
    let body : x.body ≡ y.body = sym (take_at x.body x.rest (length y.body) sized) ∙ ap (take (length y.body)) same.1
    ∙ take_at y.body y.rest (length y.body) refl in
    let method : r.method ≡ q.method = x.request_is.method ∙ ap (λ (g : RequestHead). g.method) same.0 ∙ sym y.request_is.method in
    let target : r.target ≡ q.target = x.request_is.target ∙ ap (λ (g : RequestHead). g.target) same.0 ∙ sym y.request_is.target in
    let pairs : map shown r.fields ≡ map shown q.fields = x.request_is.fields
    ∙ ap (λ (g : RequestHead). map name_and_value g.fields) same.0 ∙ sym y.request_is.fields in
    let fields : r.fields ≡ q.fields = sym (fields_back r.fields) ∙ ap (map field_of) pairs ∙ fields_back q.fields in
    let bodies : r.body ≡ q.body = x.request_is.body_is ∙ body ∙ sym y.request_is.body_is in
    let printed : length (print_request x.h) ≡ length (print_request y.h) = ap (λ (g : RequestHead). length (print_request g)) same.0 in
    let one = x.used_is in
    let two = y.used_is in
    (λ i. record { method = method i; target = target i; fields = fields i; body = bodies i }, omega arith)

-- a request that is there is what is cut
pub found_is : (bytes : List ℕ) (cut : Cut) → IfWhole cut (Begins bytes) → OnPartial cut (NoRequest bytes)
    → OnHopeless cut (NeverRequest bytes)
    → (request : Request) (used : ℕ) → Begins bytes request used → cut ≡ Whole request used
found_is bytes (Whole r m) whole partial hopeless request used b =
    let same = begins_unique bytes r request m used whole b in λ i. Whole (same.0 i) (same.1 i)
found_is bytes Partial whole partial hopeless request used b = absurd (partial request used b)
found_is bytes Hopeless whole partial hopeless request used b =
    absurd (subst NoRequest (append-nil bytes) (hopeless []) request used b)

-- what follows the first k bytes, as the code takes it
pub rest_is : (bytes : List ℕ) (k : ℕ) → take (length bytes - k) (drop k bytes) ≡ drop k bytes
rest_is bytes k = take_all (length bytes - k) (drop k bytes) (omega (arith, length-drop k bytes))

-- what can never come is told, unless the target is still being read
pub never_is : (bytes : List ℕ) (cut : Cut) → IfWhole cut (Begins bytes) → OnPartial cut (MayBecome bytes) → NeverRequest bytes
    → ¬ (IsTargetOpen bytes) → cut ≡ Hopeless
never_is bytes (Whole r m) whole partial never outside = absurd (subst NoRequest (append-nil bytes) (never []) r m whole)
never_is bytes Partial whole (inl more) never outside = absurd (never more.0 more.1 more.2 more.3)
never_is bytes Partial whole (inr ends) never outside = absurd (outside ends)
never_is bytes Hopeless whole partial never outside = refl

-- where none ever is, none is now
pub no_head_now : (bytes : List ℕ) → NeverHead bytes → ¬ (HasHead bytes)
no_head_now bytes never x = never [] x.0 x.1 x.2 (subst (λ (t : List ℕ). IsHead t x.0 x.1 x.2) (sym (append-nil bytes)) x.3)

-- what the test of a longer text says of its front
pub served : (b : Bool) (bytes s whole : List ℕ) → whole ≡ bytes ++ s → MatchBool b (HasHead whole) (¬ (HasHead whole))
    → MatchBool b (MayBecome bytes) (IsUnserved bytes s)
served true bytes s whole is x = may_become_by bytes s x.0 x.1 x.2 (subst (λ (t : List ℕ). IsHead t x.0 x.1 x.2) is x.3)
served false bytes s whole is none = subst (λ (t : List ℕ). ¬ (HasHead t)) is none

-- a request has bytes, and they are there
pub used_within : (bytes : List ℕ) (cut : Cut) → IfWhole cut (Begins bytes) → IfWhole cut (λ _ used. (0 < used) × (used ≤ length bytes))
used_within bytes (Whole request used) b =
    let size : length bytes ≡ length (print_request b.h ++ (b.body ++ b.rest)) = ap length b.head.reads.1 in
    let is = b.used_is in (
      omega (arith, print_size b.h b.head.reads.0),
      omega (
        arith,
        length-append (print_request b.h)
            (b.body ++ b.rest),
        length-append b.body b.rest,
      ),
    )
used_within bytes Partial b = tt
used_within bytes Hopeless b = tt
