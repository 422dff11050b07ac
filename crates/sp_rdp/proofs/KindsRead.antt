-- What is written of a property is read as a value of its kind.
use Rattle.std.proofs.Common.{◌≡◌, ℕ, ◌+◌, ◌-◌, Bool, true, false, not, ◌&&◌, ◌||◌, List, ◌∷◌, ◌++◌, length, length-append, reverse, take, drop, codes, refl, ap, ◌∙◌, arith, append_assoc, Some}
use Rattle.std.specs.List.{after_last, before_last, list_any, prefix_len, suffix_len}
use Rattle.std.specs.Option.{option_and_then}
use Rattle.std.proofs.lemmas.Bool.{cond-true}
use Rattle.std.proofs.Math.Seq.{drop-append-add}
use Rattle.std.proofs.lemmas.List.{reverse-append, take_at}
use Rattle.std.proofs.lemmas.List.Folds.{list_any-append}
use Rattle.sp_message.specs.declared.value.Value.{Value}
use Rattle.sp_message.specs.declared.value.Value.TheVariants as values
use Rattle.sp_rest.specs.declared.publish.suffix.ValueKind.{ValueKind}
use Rattle.sp_rest.specs.declared.publish.suffix.ValueKind.TheVariants as kinds
use Rattle.sp_rest.specs.Publish.Suffix.{is_semicolon, past_spaces, names_kind, has_suffix, kind_named}
use Rattle.sp_rest.specs.Publish.UserProperties.{value_as, value_in}
use Rattle.sp_rdp.specs.Post.{value_text, kind_word}
use Rattle.sp_rdp.specs.ReadBack.{told_value}

-- the kind that a reader of publishes has for a value
abbrev pub kind_of : Value → ValueKind
kind_of (values.Whole n) = kinds.Whole
kind_of (values.Fixed f) = kinds.Fixed
kind_of (values.Text text) = kinds.Text
kind_of (values.Bool b) = kinds.Bool

-- what stands behind the last semicolon
abbrev tail_of : Value → List ℕ
tail_of v = codes " type=" ++ kind_word v

told_split : (v : Value) → told_value v ≡ value_text v ++ 59 ∷ tail_of v
told_split v = append_assoc (value_text v) (codes "; type=") (kind_word v)

abbrev is_other : ℕ → Bool
is_other b = not (is_semicolon b)

reversed : (v : Value) → reverse (told_value v) ≡ reverse (kind_word v) ++ (reverse (codes "; type=") ++ reverse (value_text v))
reversed v =
    reverse-append (value_text v ++ codes "; type=") (kind_word v)
    ∙ ap (λ (t : List ℕ). reverse (kind_word v) ++ t) (reverse-append (value_text v) (codes "; type="))

counted : (v : Value) (r : List ℕ) → prefix_len is_other (reverse (kind_word v) ++ (reverse (codes "; type=") ++ r)) ≡ length (tail_of v)
counted (values.Whole z) r = refl
counted (values.Fixed z) r = refl
counted (values.Text t) r = refl
counted (values.Bool b) r = refl

suffix_is : (v : Value) → suffix_len is_other (told_value v) ≡ length (tail_of v)
suffix_is v = ap (prefix_len is_other) (reversed v) ∙ counted v (reverse (value_text v))

length_is : (v : Value) → length (told_value v) ≡ length (value_text v) + length (59 ∷ tail_of v)
length_is v = ap length (told_split v) ∙ length-append (value_text v) (59 ∷ tail_of v)

after_is : (v : Value) → after_last is_semicolon (told_value v) ≡ tail_of v
after_is v =
    let n : length (told_value v) - suffix_len is_other (told_value v) ≡ length (value_text v) + 1 =
    omega (arith, length_is v, suffix_is v) in
    (λ i. drop (n i) (told_split v i)) ∙ drop-append-add (value_text v) (59 ∷ tail_of v) 1

before_is : (v : Value) → before_last is_semicolon (told_value v) ≡ value_text v
before_is v =
    let n : length (told_value v) - suffix_len is_other (told_value v) - 1 ≡ length (value_text v) =
    omega (arith, length_is v, suffix_is v) in
    (λ i. take (n i) (told_split v i)) ∙ take_at (value_text v) (59 ∷ tail_of v) (length (value_text v)) refl

or_true : (b : Bool) → (b || true) ≡ true
or_true true = refl
or_true false = refl

has_one : (v : Value) → list_any is_semicolon (told_value v) ≡ true
has_one v =
    ap (list_any is_semicolon) (told_split v) ∙ list_any-append is_semicolon (value_text v) (59 ∷ tail_of v)
    ∙ or_true (list_any is_semicolon (value_text v))

names : (v : Value) → names_kind (tail_of v) ≡ true
names (values.Whole z) = refl
names (values.Fixed z) = refl
names (values.Text t) = refl
names (values.Bool b) = refl

named : (v : Value) → kind_named (drop 5 (past_spaces (tail_of v))) ≡ Some (kind_of v)
named (values.Whole z) = refl
named (values.Fixed z) = refl
named (values.Text t) = refl
named (values.Bool b) = refl

has : (v : Value) → has_suffix (told_value v) ≡ true
has v = (λ i. has_one v i && names_kind (after_is v i)) ∙ names v

-- what was written of the value, and no more or less, is read as a value of its kind
pub kind_reads : (v : Value) → value_in (told_value v) ≡ value_as (kind_of v) (value_text v)
kind_reads v =
    cond-true _ _ _ (has v)
    ∙ (λ i. option_and_then (λ kind. value_as kind (before_is v i)) (kind_named (drop 5 (past_spaces (after_is v i)))))
    ∙ ap (option_and_then (λ kind. value_as kind (value_text v))) (named v)
