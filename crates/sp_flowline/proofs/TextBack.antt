-- The compact text of a JSON value determines the value.
use Rattle.std.proofs.Common.{◌≡◌, ◌∙◌, ◌≤◌, ◌+◌, ℕ, List, [], Option, Some, None, refl, sym, ap, ap₂, arith}
use Rattle.std.proofs.Common.{append-nil}
use Rattle.std.specs.Prelude.{pos, negsuc}
use Rattle.std.specs.Option.{unwrap_or}
use Rattle.json.specs.Token.{Token}
use Rattle.json.specs.Lex.{tokens}
use Rattle.json.specs.Json as json
use Rattle.json.specs.Tree.{json_tokens, depth, HasNumbers, ItemsHaveNumbers, MembersHaveNumbers}
use Rattle.json.proofs.Printed.Decimals.{IsNumber-decimal, IsNumber-signed_decimal}
use Rattle.json.proofs.Printed.Tokens.{tokens-print}
use Rattle.json.proofs.Printed.Trees.{value-json_tokens, ArePrintable-json_tokens}
use Rattle.serde_json.specs.Data.{Num, unsigned, negative, float, Data, null, boolean, number, string, array, object}
use Rattle.serde_json.specs.Data.{Items, no_items, item, Members, no_members, member}
use Rattle.serde_json.specs.Read.{number_of}
use Rattle.serde_json.specs.Written.{outline, items_outline, members_outline, compact_text}
use Rattle.serde_json.proofs.Numbers.{number_of-decimal, number_of-negative}
use Rattle.serde_json.proofs.Texts.{print-outline}
use Rattle.sp_flowline.specs.Distinct.{HasWholes, ItemsHaveWholes, MembersHaveWholes}

abbrev mutual
  data_of : json.Json → Data
  data_of json.null = null
  data_of (json.boolean b) = boolean b
  data_of (json.number s) = number (unwrap_or (number_of s) (unsigned 0))
  data_of (json.string s) = string s
  data_of (json.array js) = array (items_data js)
  data_of (json.object ms) = object (members_data ms)

  items_data : json.Items → Items
  items_data json.no_items = no_items
  items_data (json.item j js) = item (data_of j) (items_data js)

  members_data : json.Members → Members
  members_data json.no_members = no_members
  members_data (json.member k j ms) = member k (data_of j) (members_data ms)

mutual
  data_back : (d : Data) → HasWholes d → data_of (outline d) ≡ d
  data_back null h = refl
  data_back (boolean b) h = refl
  data_back (number (unsigned n)) h = ap (λ (o : Option Num). number (unwrap_or o (unsigned 0))) (number_of-decimal n h)
  data_back (number (negative (pos n))) h = absurd h
  data_back (number (negative (negsuc n))) h =
      ap (λ (o : Option Num). number (unwrap_or o (unsigned 0))) (number_of-negative n h)
  data_back (number (float x)) h = absurd h
  data_back (string s) h = refl
  data_back (array ds) h = ap array (items_back ds h)
  data_back (object ms) h = ap object (members_back ms h)

  items_back : (ds : Items) → ItemsHaveWholes ds → items_data (items_outline ds) ≡ ds
  items_back no_items h = refl
  items_back (item d ds) h = ap₂ item (data_back d h.0) (items_back ds h.1)

  members_back : (ms : Members) → MembersHaveWholes ms → members_data (members_outline ms) ≡ ms
  members_back no_members h = refl
  members_back (member k d ms) h = ap₂ (member k) (data_back d h.0) (members_back ms h.1)

mutual
  has_numbers : (d : Data) → HasWholes d → HasNumbers (outline d)
  has_numbers null h = tt
  has_numbers (boolean b) h = tt
  has_numbers (number (unsigned n)) h = IsNumber-decimal n h
  has_numbers (number (negative (pos n))) h = absurd h
  has_numbers (number (negative (negsuc n))) h = IsNumber-signed_decimal (negsuc n) h
  has_numbers (number (float x)) h = absurd h
  has_numbers (string s) h = tt
  has_numbers (array ds) h = items_numbers ds h
  has_numbers (object ms) h = members_numbers ms h

  items_numbers : (ds : Items) → ItemsHaveWholes ds → ItemsHaveNumbers (items_outline ds)
  items_numbers no_items h = tt
  items_numbers (item d ds) h = (has_numbers d h.0, items_numbers ds h.1)

  members_numbers : (ms : Members) → MembersHaveWholes ms → MembersHaveNumbers (members_outline ms)
  members_numbers no_members h = tt
  members_numbers (member k d ms) h = (has_numbers d h.0, members_numbers ms h.1)

tokens_back : (d : Data) → HasWholes d → tokens (compact_text d) ≡ json_tokens (outline d)
tokens_back d h =
    ap tokens (sym (print-outline d))
    ∙ tokens-print (json_tokens (outline d)) (ArePrintable-json_tokens (outline d) (has_numbers d h))

first_of : Option (json.Json × List Token) → json.Json
first_of None = json.null
first_of (Some p) = p.0

read_tokens : (j : json.Json) (n : ℕ) → depth j ≤ n → first_of (json.value n (json_tokens j)) ≡ j
unfolding first_of
read_tokens j n h =
    ap (λ (ts : List Token). first_of (json.value n ts)) (sym (append-nil (json_tokens j)))
    ∙ ap first_of (value-json_tokens j n [] h)

one_value : (j k : json.Json) → json_tokens j ≡ json_tokens k → j ≡ k
one_value j k e =
    let n = depth j + depth k in
    sym (read_tokens j n (omega arith)) ∙ ap (λ (ts : List Token). first_of (json.value n ts)) e
    ∙ read_tokens k n (omega arith)

pub one_data : (d e : Data) → HasWholes d → HasWholes e → compact_text d ≡ compact_text e → d ≡ e
one_data d e h k same =
    let one = one_value (outline d) (outline e) (sym (tokens_back d h) ∙ ap tokens same ∙ tokens_back e k) in
    sym (data_back d h) ∙ ap data_of one ∙ data_back e k
