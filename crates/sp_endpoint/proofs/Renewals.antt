-- What putting texts in and taking texts out comes to.
use Rattle.std.proofs.Common.{◌≡◌, ◌<◌, ◌==◌, ◌∙◌, ℕ, suc, Bool, true, false, not, ◌&&◌, ◌||◌, List, [], ◌∷◌, ◌++◌}
use Rattle.std.proofs.Common.{◌+◌, length, get_or, take, drop, refl, sym, ap, arith}
use Rattle.std.specs.Prelude.{bytes_eq}
use Rattle.std.proofs.lemmas.Bool.{eq-eqb}
use Rattle.std.proofs.lemmas.List.{take-append-drop}
use Rattle.std.proofs.lemmas.List.Folds.{list_any-append}
use Rattle.std.proofs.lemmas.Slice.Eq.{bytes_eq-Decides}
use Rattle.std.proofs.Math.Seq.{take-suc}
use Rattle.sp_topic.specs.Subscriptions.{has_text}
use Rattle.sp_tree.specs.Tree.{AreTextsOf, has_pair}
use Rattle.sp_tree.specs.declared.node.Node.{Node}

abbrev Text : Type 0
Text = List ℕ

pub has_append : (a b : List Text) (text : Text) → has_text (a ++ b) text ≡ (has_text a text || has_text b text)
has_append a b text = list_any-append (λ t. bytes_eq t text) a b

-- a text that goes is no other than itself, and goes where it isn't kept
same_text : (a b : Text) → bytes_eq a b ≡ true → a ≡ b
same_text a b is = (bytes_eq-Decides a b).0 is

same_test : (a b : Text) → a ≡ b → bytes_eq a b ≡ true
same_test a b is = (bytes_eq-Decides a b).1 is

pub goes_out : (kept : List Text) (gone text : Text) → has_text kept gone ≡ false →
    bytes_eq text gone ≡ (bytes_eq gone text && not (has_text kept text))
goes_out kept gone text none = one (bytes_eq gone text) refl (bytes_eq text gone) refl
  where
    one : (b : Bool) → bytes_eq gone text ≡ b → (c : Bool) → bytes_eq text gone ≡ c →
        c ≡ (b && not (has_text kept text))
    one true is c was =
        let same : gone ≡ text = same_text gone text is in
        sym was ∙ same_test text gone (sym same) ∙ ap not (sym none) ∙ ap (λ t. not (has_text kept t)) same
    one false is true was =
        absurd (let no : bytes_eq gone text ≡ true = same_test gone text (sym (same_text text gone was)) in cc)
    one false is false was = refl

pub is_kept : (kept : List Text) (gone text : Text) → has_text kept gone ≡ true →
    false ≡ (bytes_eq gone text && not (has_text kept text))
is_kept kept gone text there = one (bytes_eq gone text) refl
  where
    one : (b : Bool) → bytes_eq gone text ≡ b → false ≡ (b && not (has_text kept text))
    one true is = ap not (sym there) ∙ ap (λ t. not (has_text kept t)) (same_text gone text is)
    one false is = refl

-- of the number alone
pub nothing_out : (b own : Bool) (out : Bool) → false ≡ out → b ≡ (b && not (own && out))
nothing_out true true out is = λ i. not (is i)
nothing_out true false out is = refl
nothing_out false own out is = refl

-- texts that begin alike, one more each
pub next_alike : (from to : List Text) (i : ℕ) (x y : Text) → i < length from → i < length to →
    take i from ≡ take i to →
    x ≡ get_or from i x → y ≡ get_or to i y → bytes_eq x y ≡ true → take (i + 1) from ≡ take (i + 1) to
next_alike from to i x y here there alike at_from at_to same =
    ap (λ n. take n from) (sym one_more) ∙ take-suc from i x here
    ∙ ap (λ t. take i from ++ t ∷ []) (sym at_from ∙ same_text x y same ∙ at_to)
    ∙ ap (λ ts. ts ++ get_or to i y ∷ []) alike ∙ sym (take-suc to i y there) ∙ ap (λ n. take n to) one_more
  where
    one_more : suc i ≡ i + 1
    one_more = omega arith

-- the new texts are there where the old ones were: both begin alike, what isn't kept of the old rest goes, and
-- the new rest comes
pub renewed : (from to : List Text) (i : ℕ) (text : Text) → take i from ≡ take i to →
    has_text to text ≡
    ((has_text from text && not (has_text (drop i from) text && not (has_text to text))) || has_text (drop i to)
    text)
renewed from to i text same =
    parts to ∙ one (has_text (take i to) text) (has_text (drop i from) text) (has_text (drop i to) text)
    ∙ ap (λ b. (b && not
    (has_text (drop i from) text && not (has_text (take i to) text || has_text (drop i to) text))) || has_text
    (drop i to) text) (sym before)
    ∙ ap (λ b. (has_text from text && not (has_text (drop i from) text && not b)) || has_text (drop i to) text)
    (sym (parts to))
  where
    parts : (ts : List Text) → has_text ts text ≡ (has_text (take i ts) text || has_text (drop i ts) text)
    parts ts = ap (λ us. has_text us text) (sym (take-append-drop i ts)) ∙ has_append (take i ts) (drop i ts) text

    before : has_text from text ≡ (has_text (take i to) text || has_text (drop i from) text)
    before = parts from ∙ ap (λ ts. has_text ts text || has_text (drop i from) text) same

    one : (p a b : Bool) → (p || b) ≡ (((p || a) && not (a && not (p || b))) || b)
    one true true b = refl
    one true false b = refl
    one false true true = refl
    one false true false = refl
    one false false b = refl

-- the same of what a tree holds for a number, where the old rest is cut off as a slice, and the new one
pub renewed_pairs : (old mid new : List Node) (number : ℕ) (from to gone come : List Text) (i : ℕ) →
    take i from ≡ take i to →
    gone ≡ drop i from → come ≡ drop i to → AreTextsOf old number from →
    ((n : ℕ) (text : Text) → has_pair mid n text ≡
    (has_pair old n text && not (n == number && (has_text gone text && not (has_text to text))))) →
    ((n : ℕ) (text : Text) → has_pair new n text ≡ (has_pair mid n text || (number == n && has_text come text))) →
    AreTextsOf new number to
renewed_pairs old mid new number from to gone come i same is_gone is_come held out in_again text =
    renewed from to i text same
    ∙ (λ k. (has_text from text && not (has_text (sym is_gone k) text && not (has_text to text))) || has_text
    (sym is_come k) text)
    ∙ ap (λ b. (b && not (has_text gone text && not (has_text to text))) || has_text come text) (held text)
    ∙ (λ k. (has_pair old number text && not (own k && (has_text gone text && not (has_text to text)))) ||
    (own k && has_text come text))
    ∙ ap (λ b. b || (number == number && has_text come text)) (sym (out number text))
    ∙ sym (in_again number text)
  where
    own : true ≡ (number == number)
    own = sym (eq-eqb number number refl)
