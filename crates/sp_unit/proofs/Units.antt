-- A unit that is read is the one that was written, and what was written is read again.
use Rattle.std.proofs.Common.{◌≡◌, ◌∙◌, ◌+◌, ◌≤◌, ◌++◌, ℕ, suc, Bool, true, false, List, [], ◌∷◌, length, take, drop, Option, Some, None, refl, sym, ap, subst, arith, append_assoc}
use Rattle.std.specs.Prelude.{◌==◌, if◌then◌else◌, nat_lt, Result, Ok, Err, IfOk, IsErrOf}
use Rattle.sp_message.specs.declared.codec.ReadError.{ReadError}
use Rattle.sp_message.specs.declared.codec.ReadError.TheVariants.{NotOne}
use Rattle.sp_message.proofs.OneByOne.{not_one}
use Rattle.std.specs.List.{AllByRecursion}
use Rattle.std.proofs.lemmas.Bool.{eqb-true, ltb-false, le-ltb}
use Rattle.std.proofs.lemmas.Bool.Decides.{nat_tests}
use Rattle.std.proofs.lemmas.List.{append-nil, nil_from_length, take_at, drop_at, take-append-drop, length-append, length-take, get_or-drop}
use Rattle.std.proofs.lemmas.List.Elements.{recursion_from_All, All-from_recursion}
use Rattle.sp_base.specs.Name.{is_caller, is_name}
use Rattle.sp_message.specs.Decoding.{◌>>=◌, Gives, list_at, number_within_at}
use Rattle.sp_message.specs.Encoding.{list_bytes, number_bytes}
use Rattle.sp_message.proofs.Codecs.{IsBytes, IsCodec, Takes, Takes-byte, Takes-then, bind_some, list_codec, number_within_codec, some_is}
use Rattle.sp_unit.specs.UnitBytes.{IsEvent, IsUnit, KeepsUnitRules, UnitView, event_bytes, is_caller_name, unit_bytes}
use Rattle.sp_unit.specs.UnitReading.{caller_at, event_at, named, unit_at, whole_unit}
use Rattle.sp_unit.proofs.Events.{event_codec}
use Rattle.sp_unit.proofs.FewSettings.{and_true, split_and}

IsBytes-drop : (n : ℕ) (bytes : List ℕ) → IsBytes bytes → IsBytes (drop n bytes)
IsBytes-drop n bytes h i = rw get_or-drop (h (n + i))

abbrev caller_bytes : List ℕ → List ℕ
caller_bytes caller = length caller ∷ caller

moment_codec : IsCodec (λ n. (0 ≤ n) × (n ≤ 9007199254740991)) number_bytes (number_within_at 0 9007199254740991)
moment_codec = number_within_codec 0 9007199254740991 (omega arith)

guarded : {A : Type 0} (b : Bool) (x z : A) → (if b then Some x else None) ≡ Some z → (b ≡ true) × (x ≡ z)
guarded true x z e = (refl, some_is x z e)
guarded false x z e = absurd cc

unless_long : {A : Type 0} (b : Bool) (x : Option A) (z : A) → (if b then None else x) ≡ Some z → (b ≡ false)
    × (x ≡ Some z)
unless_long true x z e = absurd cc
unless_long false x z e = (refl, e)

named_is : (text : List ℕ) (name : List ℕ) → named text ≡ Some name → (is_name text ≡ true) × (text ≡ name)
unfolding named
named_is text name e = guarded (is_name text) text name e

caller_takes : (bytes : List ℕ) (x : List ℕ) (rest : List ℕ) → IsBytes bytes → caller_at bytes ≡ Some (x, rest)
    → Takes bytes (caller_bytes x) rest × (is_caller_name x ≡ true)
unfolding caller_at
caller_takes [] x rest is e = absurd cc
caller_takes (n ∷ bytes) x rest is e =
    let text = take n bytes in
    let a = unless_long (nat_lt (length bytes) n)
    (named text >>= λ name. if is_caller name then Some (name, drop n bytes) else None) (x, rest) e in
    let b = bind_some (named text) (λ name. if is_caller name then Some (name, drop n bytes) else None) (x, rest) a.1 in
    let c = guarded (is_caller b.0) (b.0, drop n bytes) (x, rest) b.2 in
    let d = named_is text b.0 b.1 in
    let long : n ≤ length bytes = ltb-false _ _ a.0 in
    let len : length text ≡ n = omega (arith, length-take n bytes) in
    let front : Takes bytes text (drop n bytes) =
    record { parts = sym (take-append-drop n bytes); rest_fits = IsBytes-drop n bytes (λ i. is (suc i)) } in
    let whole = subst (λ (k : ℕ). Takes (n ∷ bytes) (k ∷ text) (drop n bytes)) (sym len)
    (Takes-byte n bytes text (drop n bytes) front) in
    let valid : is_caller_name b.0 ≡ true = and_true _ _ (subst (λ (t : List ℕ). is_name t ≡ true) d.1 d.0) c.0 in
    subst (λ (y : List ℕ × List ℕ). Takes (n ∷ bytes) (caller_bytes y.0) y.1 × (is_caller_name y.0 ≡ true)) c.1
    (subst (λ (t : List ℕ). Takes (n ∷ bytes) (caller_bytes t) (drop n bytes)) d.1 whole, valid)

named_as : (name : List ℕ) → is_name name ≡ true → named name ≡ Some name
unfolding named
named_as name h = ap (λ (b : Bool). if b then Some name else None) h

caller_again : (x rest : List ℕ) → is_caller_name x ≡ true → caller_at (caller_bytes x ++ rest) ≡ Some (x, rest)
unfolding caller_at
caller_again x rest h =
    let both = split_and (is_name x) (is_caller x) h in
    let long : nat_lt (length (x ++ rest)) (length x) ≡ false = le-ltb _ _ (omega (arith, length-append x rest)) in
    rw (long, take_at x rest (length x) refl, drop_at x rest (length x) refl, named_as x both.0)
    (ap (λ (b : Bool). if b then Some (x, rest) else None) both.1)

caller_codec : IsCodec (λ x. is_caller_name x ≡ true) caller_bytes caller_at
caller_codec = record { takes = caller_takes; again = caller_again }

events_codec : IsCodec (λ es. AllByRecursion IsEvent es) (list_bytes event_bytes) (list_at event_at)
events_codec = list_codec IsEvent event_bytes event_at event_codec

one_is : (n : ℕ) → n ≡ 1 → (n == 1) ≡ true
one_is n h = grind (arith, nat_tests)

pub unit_codec : IsCodec KeepsUnitRules unit_bytes unit_at
unfolding unit_at
unit_codec = record { takes = takes; again = again }
  where
    takes : (bytes : List ℕ) (u : UnitView) (rest : List ℕ) → IsBytes bytes → unit_at bytes ≡ Some (u, rest)
        → Takes bytes (unit_bytes u) rest × KeepsUnitRules u
    takes bytes u rest is e =
        let a = bind_some (number_within_at 0 9007199254740991 bytes) _ (u, rest) e in
        let b = bind_some (caller_at a.0.1) _ (u, rest) a.2 in
        let c = bind_some (list_at event_at b.0.1) _ (u, rest) b.2 in
        let read : UnitView = record { moment = a.0.0; caller = b.0.0; events = c.0.0 } in
        let g = guarded (length c.0.0 == 1) (read, c.0.1) (u, rest) c.2 in
        let ta = moment_codec.takes bytes a.0.0 a.0.1 is a.1 in
        let tb = caller_codec.takes a.0.1 b.0.0 b.0.1 ta.0.rest_fits b.1 in
        let tc = events_codec.takes b.0.1 c.0.0 c.0.1 tb.0.rest_fits c.1 in
        let last = Takes-then a.0.1 (caller_bytes b.0.0) b.0.1 (list_bytes event_bytes c.0.0) c.0.1 tb.0 tc.0 in
        let whole = Takes-then bytes (number_bytes a.0.0) a.0.1 (caller_bytes b.0.0 ++ list_bytes event_bytes c.0.0)
        c.0.1 ta.0 last in
        let rules : KeepsUnitRules read =
        record {
          moment = ta.1.1;
          caller = tb.1;
          one = eqb-true (length c.0.0) 1 g.0;
          events =
              All-from_recursion IsEvent c.0.0 tc.1;
        } in
        subst (λ (x : UnitView × List ℕ). Takes bytes (unit_bytes x.0) x.1 × KeepsUnitRules x.0) g.1 (whole, rules)

    three : (a b c rest : List ℕ) → (a ++ (b ++ c)) ++ rest ≡ a ++ (b ++ (c ++ rest))
    three a b c rest = simp append_assoc

    again : (u : UnitView) (rest : List ℕ) → KeepsUnitRules u → unit_at (unit_bytes u ++ rest) ≡ Some (u, rest)
    again u rest h =
        let events = list_bytes event_bytes u.events ++ rest in
        ap unit_at (three (number_bytes u.moment) (caller_bytes u.caller) (list_bytes event_bytes u.events) rest)
        ∙ rw (
          moment_codec.again u.moment (caller_bytes u.caller ++ events) (omega arith, h.moment),
          caller_codec.again u.caller events h.caller,
          events_codec.again u.events rest (recursion_from_All IsEvent u.events h.events),
        )
        (ap (λ (b : Bool). if b then Some (u, rest) else None) (one_is (length u.events) h.one))

-- ---- the whole of the bytes

pub found : (bytes : List ℕ) (u : UnitView) → IsBytes bytes → whole_unit bytes ≡ Some u → IsUnit bytes u
unfolding whole_unit
found bytes u is e =
    let a = bind_some (unit_at bytes) (λ x. if length x.1 == 0 then Some x.0 else None) u e in
    let g = guarded (length a.0.1 == 0) a.0.0 u a.2 in
    let t = unit_codec.takes bytes a.0.0 a.0.1 is a.1 in
    let empty : a.0.1 ≡ [] = nil_from_length a.0.1 (eqb-true (length a.0.1) 0 g.0) in
    subst (IsUnit bytes) g.1 (
      t.1,
      t.0.parts
          ∙ (ap (λ (w : List ℕ). unit_bytes a.0.0 ++ w) empty ∙ append-nil (unit_bytes a.0.0)),
    )

pub again : (bytes : List ℕ) (u : UnitView) → IsUnit bytes u → whole_unit bytes ≡ Some u
unfolding whole_unit
again bytes u h =
    ap whole_unit (h.1 ∙ sym (append-nil (unit_bytes u))) ∙ rw (unit_codec.again u [] h.0) refl

pub none_is : (bytes : List ℕ) (u : UnitView) → whole_unit bytes ≡ None → IsUnit bytes u → ⊥
none_is bytes u none h = clash (whole_unit bytes) u none (again bytes u h)
  where
    clash : {A : Type 0} (o : Option A) (x : A) → o ≡ None → o ≡ Some x → ⊥
    clash None x e f = cc
    clash (Some y) x e f = cc

pub one_spelling : (a b : List ℕ) (u : UnitView) → IsUnit a u → IsUnit b u → a ≡ b
one_spelling a b u h k = h.1 ∙ sym k.1

pub one_unit : (bytes : List ℕ) (u v : UnitView) → IsUnit bytes u → IsUnit bytes v → u ≡ v
one_unit bytes u v h k = some_is u v (sym (again bytes u h) ∙ again bytes v k)

-- what an answer says of the bytes
pub told : (bytes : List ℕ) (r : Result UnitView ReadError) → IsBytes bytes → Gives (λ u. u) r (whole_unit bytes)
    → IfOk r (λ u. IsUnit bytes u)
told bytes (Ok u) is h = found bytes u is h
told bytes (Err e) is h = tt

pub refused : (bytes : List ℕ) (r : Result UnitView ReadError) → Gives (λ u. u) r (whole_unit bytes) → IsErrOf r NotOne
    → (u : UnitView) → IsUnit bytes u → ⊥
refused bytes (Ok v) h is u k = absurd cc
refused bytes (Err e) h is u k = none_is bytes u (not_one e (whole_unit bytes) is h) k
