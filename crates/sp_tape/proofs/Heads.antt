-- The first line of an entry, as text and as read.
use Rattle.std.proofs.Common.{◌≡◌, ◌≤◌, ◌==◌, ℕ, Bool, true, false, ◌&&◌, cond, inl, inr, ◌⊎◌, List, [], ◌∷◌, ◌++◌}
use Rattle.std.proofs.Common.{length, Option, Some, None, refl, ap, subst, ◌∙◌, arith}
use Rattle.std.specs.Prelude.{nat_le, nat_lt, decimal, codes, bytes_eq, option_and_then, option_map}
use Rattle.std.specs.List.{list_all}
use Rattle.std.proofs.lemmas.Bool.{leb-true, le-leb, le-ltb, ltb-false, eqb-true, and_parts, and_from, cond-true}
use Rattle.std.proofs.lemmas.Bool.{cond-false}
use Rattle.std.proofs.lemmas.Fmt.{length-decimal-le}
use Rattle.std.proofs.lemmas.List.{length-append}
use Rattle.std.proofs.lemmas.Option.{cond_some, option_and_then_some, same_Some}
use Rattle.std.proofs.lemmas.Slice.Eq.{bytes_eq-Decides}
use Rattle.sp_base.specs.Name.{is_name, is_name_byte, is_caller}
use Rattle.sp_tape.specs.declared.entry.Kind.{Kind}
use Rattle.sp_tape.specs.declared.entry.Kind.TheVariants.{Flow, Http, Rdp, Restart}
use Rattle.sp_tape.specs.declared.head.Head.{Head}
use Rattle.sp_tape.specs.Cut.{cut}
use Rattle.sp_tape.specs.Entry.{kind_word}
use Rattle.sp_tape.specs.Head.{after_at, caller_from, head_from, head_of, kind_named, length_from, length_in}
use Rattle.sp_tape.specs.Head.{longest_body, moment_from, moment_in}
use Rattle.sp_tape.specs.Numeral.{number_from}
use Rattle.sp_tape.specs.Parse.{line_of}
use Rattle.sp_tape.proofs.Cuts.{has_byte, is_cut, cut-found, apart, clear-append}
use Rattle.sp_tape.proofs.Numerals.{number_is, number_from-decimal, decimal-clear}

-- the values of a head are in their ranges
pub record InRange (h : Head) : Type 0 where
  pub name : is_name h.caller ≡ true
  pub short : is_caller h.caller ≡ true
  pub moment : h.moment ≤ 9007199254740991
  pub body : h.len ≤ longest_body h.kind

abbrev made : List ℕ → Kind → ℕ → ℕ → Head
made caller kind moment len = record { caller = caller; kind = kind; moment = moment; len = len }

-- what the four texts say of a head
record IsFields (caller kind moment len : List ℕ) (h : Head) : Type 0 where
  caller_is : caller ≡ h.caller
  kind_is : kind ≡ kind_word h.kind
  moment_is : moment ≡ decimal h.moment
  len_is : len ≡ decimal h.len
  range : InRange h

option_map_some : {A B P : Type 0} (f : A → B) (o : Option A) (y : B) → option_map f o ≡ Some y →
    ((x : A) → o ≡ Some x → f x ≡ y → P) → P
option_map_some f None y e then = absurd (cc)
option_map_some {A} {B} f (Some x) y e then = then x refl (same_Some (f x) y e)

either_some : {A : Type 0} (t : Bool) (x y : A) (o : Option A) → cond t (Some x) o ≡ Some y →
    ((t ≡ true) × (x ≡ y)) ⊎ (o ≡ Some y)
either_some true x y o e = inl (refl, same_Some x y e)
either_some false x y o e = inr e

kind_is : (word : List ℕ) (k : Kind) → kind_named word ≡ Some k → word ≡ kind_word k
kind_is word k e = elim (either_some (bytes_eq word (codes "flow")) Flow k _ e) [
  | inl (t, s) ↦ subst (λ (x : Kind). word ≡ kind_word x) s ((bytes_eq-Decides word (codes "flow")).0 t)
  | inr e1 ↦ elim (either_some (bytes_eq word (codes "http")) Http k _ e1) [
    | inl (t, s) ↦ subst (λ (x : Kind). word ≡ kind_word x) s ((bytes_eq-Decides word (codes "http")).0 t)
    | inr e2 ↦ elim (either_some (bytes_eq word (codes "rdp")) Rdp k _ e2) [
      | inl (t, s) ↦ subst (λ (x : Kind). word ≡ kind_word x) s ((bytes_eq-Decides word (codes "rdp")).0 t)
      | inr e3 ↦ elim (either_some (bytes_eq word (codes "restart")) Restart k _ e3) [
        | inl (t, s) ↦ subst (λ (x : Kind). word ≡ kind_word x) s ((bytes_eq-Decides word (codes "restart")).0 t)
        | inr e4 ↦ absurd (cc)
      ]
    ]
  ]
]

kind_named-word : (k : Kind) → kind_named (kind_word k) ≡ Some k
kind_named-word Flow = refl
kind_named-word Http = refl
kind_named-word Rdp = refl
kind_named-word Restart = refl

moment_is : (text : List ℕ) (m : ℕ) → moment_from text ≡ Some m → (text ≡ decimal m) × (m ≤ 9007199254740991)
moment_is text m e = option_and_then_some moment_in (number_from text) m e (λ n en em.
    let parts = cond_some (nat_le n 9007199254740991) n m em in
    let low : n ≤ 9007199254740991 = leb-true n 9007199254740991 parts.0 in
    let here = (number_is text n en).0 in
    (subst (λ (k : ℕ). text ≡ decimal k) parts.1 here, subst (λ (k : ℕ). k ≤ 9007199254740991) parts.1 low))

cond_other : (t : Bool) (x y : ℕ) → cond t None (Some x) ≡ Some y → (t ≡ false) × (x ≡ y)
cond_other true x y e = absurd (cc)
cond_other false x y e = (refl, same_Some x y e)

length_is : (kind : Kind) (text : List ℕ) (n : ℕ) → length_from kind text ≡ Some n →
    (text ≡ decimal n) × (n ≤ longest_body kind)
length_is kind text n e = option_and_then_some (length_in kind) (number_from text) n e (λ k en el.
    let parts = cond_other (nat_lt (longest_body kind) k) k n el in
    let low : k ≤ longest_body kind = ltb-false (longest_body kind) k parts.0 in
    let here = (number_is text k en).0 in
    (subst (λ (x : ℕ). text ≡ decimal x) parts.1 here, subst (λ (x : ℕ). x ≤ longest_body kind) parts.1 low))

abbrev from_moment : List ℕ → Kind → List ℕ → ℕ → Option Head
from_moment c k len m = option_map (made c k m) (length_from k len)

abbrev from_kind : List ℕ → List ℕ → List ℕ → Kind → Option Head
from_kind c moment len k = option_and_then (from_moment c k len) (moment_from moment)

abbrev from_caller : List ℕ → List ℕ → List ℕ → List ℕ → Option Head
from_caller kind moment len c = option_and_then (from_kind c moment len) (kind_named kind)

fields : (caller kind moment len : List ℕ) (h : Head) → head_from caller kind moment len ≡ Some h →
    IsFields caller kind moment len h
fields caller kind moment len h e =
    option_and_then_some (from_caller kind moment len) (caller_from caller) h e (λ c ec e1.
    option_and_then_some (from_kind c moment len) (kind_named kind) h e1 (λ k ek e2.
    option_and_then_some (from_moment c k len) (moment_from moment) h e2 (λ m em e3.
    option_map_some (made c k m) (length_from k len) h e3 (λ n en eh.
    let name = cond_some (is_name caller && is_caller caller) caller c ec in
    let both = and_parts (is_name caller) (is_caller caller) name.0 in
    let at_moment = moment_is moment m em in
    let at_len = length_is k len n en in
    subst (λ (x : Head). IsFields caller kind moment len x) eh (record {
      caller_is = name.1;
      kind_is = kind_is kind k ek;
      moment_is = at_moment.0;
      len_is = at_len.0;
      range = record {
        name = subst (λ (x : List ℕ). is_name x ≡ true) name.1 both.0;
        short = subst (λ (x : List ℕ). is_caller x ≡ true) name.1 both.1;
        moment = at_moment.1;
        body = at_len.1;
      };
    })))))

after_at_is : (line rest : List ℕ) → after_at line ≡ Some rest → line ≡ 64 ∷ rest
after_at_is [] rest e = absurd (cc)
after_at_is (x ∷ xs) rest e =
    let parts = cond_some (x == 64) xs rest e in
    let sign : x ≡ 64 = eqb-true x 64 parts.0 in
    let same : xs ≡ rest = parts.1 in
    cc

abbrev of_moment : List ℕ → List ℕ → List ℕ × List ℕ → Option Head
of_moment caller kind r = head_from caller kind r.0 r.1

abbrev of_kind : List ℕ → List ℕ × List ℕ → Option Head
of_kind caller q = option_and_then (of_moment caller q.0) (cut 32 q.1)

abbrev of_caller : List ℕ × List ℕ → Option Head
of_caller p = option_and_then (of_kind p.0) (cut 32 p.1)

abbrev of_rest : List ℕ → Option Head
of_rest rest = option_and_then of_caller (cut 32 rest)

-- a line that is read is the text of what it says
pub head_is : (line : List ℕ) (h : Head) → head_of line ≡ Some h → (line ≡ line_of h) × InRange h
head_is line h e =
    option_and_then_some of_rest (after_at line) h e (λ rest ea e1.
    option_and_then_some of_caller (cut 32 rest) h e1 (λ p ep e2.
    option_and_then_some (of_kind p.0) (cut 32 p.1) h e2 (λ q eq e3.
    option_and_then_some (of_moment p.0 q.0) (cut 32 q.1) h e3 (λ r er e4.
    let f = fields p.0 q.0 r.0 r.1 h e4 in
    let first = (is_cut 32 rest p.0 p.1 ep).joined in
    let second = (is_cut 32 p.1 q.0 q.1 eq).joined in
    let third = (is_cut 32 q.1 r.0 r.1 er).joined in
    let sign = after_at_is line rest ea in
    (cc (sign, first, second, third, f.caller_is, f.kind_is, f.moment_is, f.len_is), f.range)))))

name-clear : (byte : ℕ) (caller : List ℕ) → is_name_byte byte ≡ false → is_name caller ≡ true →
    has_byte byte caller ≡ false
name-clear byte caller fails h =
    apart is_name_byte byte fails caller (and_parts (nat_le 1 (length caller) && nat_le (length caller) 200)
    (list_all is_name_byte caller) h).1

kind-clear_blank : (k : Kind) → has_byte 32 (kind_word k) ≡ false
kind-clear_blank Flow = refl
kind-clear_blank Http = refl
kind-clear_blank Rdp = refl
kind-clear_blank Restart = refl

kind-clear_feed : (k : Kind) → has_byte 10 (kind_word k) ≡ false
kind-clear_feed Flow = refl
kind-clear_feed Http = refl
kind-clear_feed Rdp = refl
kind-clear_feed Restart = refl

kind-short : (k : Kind) → length (kind_word k) ≤ 7
kind-short Flow = omega arith
kind-short Http = omega arith
kind-short Rdp = omega arith
kind-short Restart = omega arith

pub body-bound : (k : Kind) → longest_body k ≤ 8388608
body-bound Flow = omega arith
body-bound Http = omega arith
body-bound Rdp = omega arith
body-bound Restart = omega arith

-- the text of a head has no line feed
pub text-clear : (h : Head) → InRange h → has_byte 10 (line_of h) ≡ false
text-clear h r =
    let most = body-bound h.kind in
    let low : h.len ≤ longest_body h.kind = r.body in
    let late : h.moment ≤ 9007199254740991 = r.moment in
    clear-append 10 h.caller _ (name-clear 10 h.caller refl r.name)
    (clear-append 10 (kind_word h.kind) (32 ∷ (decimal h.moment ++ 32 ∷ decimal h.len)) (kind-clear_feed h.kind)
    (clear-append 10 (decimal h.moment) (32 ∷ decimal h.len) (decimal-clear 10 h.moment refl (omega arith))
    (decimal-clear 10 h.len refl (omega arith))))

-- and at most 98 bytes
pub text-short : (h : Head) → InRange h → length (line_of h) ≤ 98
text-short h r =
    let most = body-bound h.kind in
    let low : h.len ≤ longest_body h.kind = r.body in
    let late : h.moment ≤ 9007199254740991 = r.moment in
    let caller = leb-true (length h.caller) 64 r.short in
    let kind = kind-short h.kind in
    let moment = length-decimal-le 16 h.moment (omega arith) (omega arith) (omega arith) in
    let len = length-decimal-le 7 h.len (omega arith) (omega arith) (omega arith) in
    simp length-append (omega arith)

head_from-text : (h : Head) → InRange h → head_from h.caller (kind_word h.kind) (decimal h.moment) (decimal h.len)
    ≡ Some h
head_from-text h r =
    let most = body-bound h.kind in
    let low : h.len ≤ longest_body h.kind = r.body in
    let late : h.moment ≤ 9007199254740991 = r.moment in
    let caller = cond-true (is_name h.caller && is_caller h.caller) (Some h.caller) None
    (and_from (is_name h.caller) (is_caller h.caller) r.name r.short) in
    let moment : moment_from (decimal h.moment) ≡ Some h.moment =
    ap (option_and_then moment_in) (number_from-decimal h.moment (omega arith)) ∙
    cond-true (nat_le h.moment 9007199254740991) (Some h.moment) None (le-leb h.moment 9007199254740991 late) in
    let len : length_from h.kind (decimal h.len) ≡ Some h.len = ap (option_and_then (length_in h.kind))
    (number_from-decimal h.len (omega arith)) ∙ cond-false (nat_lt (longest_body h.kind) h.len) None (Some h.len)
    (le-ltb (longest_body h.kind) h.len low) in
    ap (option_and_then (from_caller (kind_word h.kind) (decimal h.moment) (decimal h.len))) caller
    ∙ (ap (option_and_then (from_kind h.caller (decimal h.moment) (decimal h.len))) (kind_named-word h.kind)
    ∙ (ap (option_and_then (from_moment h.caller h.kind (decimal h.len))) moment
    ∙ ap (option_map (made h.caller h.kind h.moment)) len))

-- the text of a head is read as that head
pub head_of-text : (h : Head) → InRange h → head_of (line_of h) ≡ Some h
head_of-text h r =
    let late : h.moment ≤ 9007199254740991 = r.moment in
    let after_moment = 32 ∷ decimal h.len in
    let after_kind = decimal h.moment ++ 32 ∷ decimal h.len in
    let after_caller = kind_word h.kind ++ 32 ∷ (decimal h.moment ++ 32 ∷ decimal h.len) in
    ap (option_and_then of_caller) (cut-found 32 h.caller after_caller (name-clear 32 h.caller refl r.name))
    ∙ (ap (option_and_then (of_kind h.caller)) (cut-found 32 (kind_word h.kind) after_kind (kind-clear_blank h.kind))
    ∙ (ap (option_and_then (of_moment h.caller (kind_word h.kind))) (cut-found 32 (decimal h.moment) (decimal h.len)
    (decimal-clear 32 h.moment refl (omega arith)))
    ∙ head_from-text h r))
