-- The compact text of a value that fits: what it is read as, where it is read at all.
use Rattle.std.proofs.Common.{◌≡◌, ◌≤◌, ◌+◌, ℕ, suc, Bool, true, false, cond, nat_le, List, [], ◌∷◌, ◌++◌, Option, Some, None, option_map, option_and_then, pos, negsuc, refl, sym, ap, ◌∙◌, append-nil, arith}
use Rattle.std.proofs.lemmas.Bool.Decides.{nat_tests}
use Rattle.json.specs.Token.{Token}
use Rattle.json.specs.Lex.{tokens}
use Rattle.json.specs.Json as json
use Rattle.json.specs.Tree.{json_tokens, HasNumbers, ItemsHaveNumbers, MembersHaveNumbers, depth}
use Rattle.json.specs.Print.{IsNumber}
use Rattle.json.proofs.Printed.Decimals.{IsNumber-decimal, IsNumber-signed_decimal}
use Rattle.json.proofs.Printed.Tokens.{tokens-print}
use Rattle.json.proofs.Printed.Trees.{value-json_tokens, ArePrintable-json_tokens}
use Rattle.json.proofs.Unique.Spelling.{value-json_tokens_back}
use Rattle.serde_json.specs.Data.{Num, unsigned, negative, float, Data, null, boolean, number, string, array, object, Items, no_items, item, Members, no_members, member}
use Rattle.serde_json.specs.Read.{of_json, read, max_depth}
use Rattle.serde_json.specs.Written.{outline, items_outline, members_outline, number_text, compact_text}
use Rattle.serde_json.proofs.Texts.{print-outline}
use Rattle.stix_json.specs.Walk.{index_part}
use Rattle.stix_json.specs.inner.ValueErrors.{value_error_under, number_value_error, value_error_here, first_value_error, items_value_error, members_value_error}
use Rattle.stix_json.specs.declared.limits.TheConstants.{MAX_SAFE_INTEGER}
use Rattle.stix_json.proofs.ValueErrorsLemmas.{option_or_none, option_map_none}
use Rattle.stix_json.proofs.DataOfLemmas.{IsSigned, HasSigns, ItemsHaveSigns, MembersHaveSigns}

-- ---- the numbers of a value that fits have texts

in_range : {A B : Type 0} (f : A → B) (b : Bool) (reason : A) → option_map f (cond b None (Some reason)) ≡ None → b ≡ true
in_range f true reason good = refl
in_range f false reason good = absurd (cc)

small : (n : ℕ) → nat_le n MAX_SAFE_INTEGER ≡ true → n ≤ 9007199254740991
small n low = grind (arith, nat_tests)

number_has : (n : Num) → IsSigned n → value_error_here (number_value_error n) ≡ None → IsNumber (number_text n)
number_has (unsigned n) signed good = let low = small n (in_range _ (nat_le n MAX_SAFE_INTEGER) _ good) in IsNumber-decimal n (omega (arith, low))
number_has (negative (pos n)) signed good = absurd signed
number_has (negative (negsuc n)) signed good = let low = small (suc n) (in_range _ (nat_le (suc n) MAX_SAFE_INTEGER) _ good) in IsNumber-signed_decimal (negsuc n) (omega (arith, low))
number_has (float x) signed good = absurd signed

mutual
  pub has_numbers : (d : Data) → HasSigns d → first_value_error d ≡ None → HasNumbers (outline d)
  has_numbers null signs good = tt
  has_numbers (boolean b) signs good = tt
  has_numbers (number n) signs good = number_has n signs good
  has_numbers (string s) signs good = tt
  has_numbers (array ds) signs good = items_have 0 ds signs good
  has_numbers (object ms) signs good = members_have ms signs good

  items_have : (at : ℕ) (ds : Items) → ItemsHaveSigns ds → items_value_error at ds ≡ None → ItemsHaveNumbers (items_outline ds)
  items_have at no_items signs good = tt
  items_have at (item d ds) signs good =
      let parts = option_or_none (option_map (value_error_under (index_part at)) (first_value_error d)) (items_value_error (at + 1) ds) good in
      (has_numbers d signs.0 (option_map_none (value_error_under (index_part at)) (first_value_error d) parts.0), items_have (at + 1) ds signs.1 parts.1)

  members_have : (ms : Members) → MembersHaveSigns ms → members_value_error ms ≡ None → MembersHaveNumbers (members_outline ms)
  members_have no_members signs good = tt
  members_have (member k d ms) signs good =
      let parts = option_or_none (option_map (value_error_under k) (first_value_error d)) (members_value_error ms) good in
      (has_numbers d signs.0 (option_map_none (value_error_under k) (first_value_error d) parts.0), members_have ms signs.1 parts.1)

-- ---- the text of a value has the tokens of its outline

text_tokens : (d : Data) → HasNumbers (outline d) → tokens (compact_text d) ≡ json_tokens (outline d)
text_tokens d numbers = ap tokens (sym (print-outline d)) ∙ tokens-print (json_tokens (outline d)) (ArePrintable-json_tokens (outline d) numbers)

-- tokens that are a tree's are no other tree's, with others after
one_tree : (j k : json.Json) (rest : List Token) → json_tokens j ≡ json_tokens k ++ rest → j ≡ k
one_tree j k rest same =
    let most = depth j + depth k in
    let first : json.value most (json_tokens j ++ []) ≡ Some (j, []) = value-json_tokens j most [] (omega arith) in
    let second : json.value most (json_tokens k ++ rest) ≡ Some (k, rest) = value-json_tokens k most rest (omega arith) in
    first_same (j, []) (k, rest) (sym first ∙ ap (json.value most) (append-nil (json_tokens j) ∙ same) ∙ second)
  where
    some_same : (x y : json.Json × List Token) → Some x ≡ Some y → x ≡ y
    some_same x y both = cc

    first_same : (x y : json.Json × List Token) → Some x ≡ Some y → x.0 ≡ y.0
    first_same x y both = ap (λ (pair : json.Json × List Token). pair.0) (some_same x y both)

-- so a value's text is read as what its outline is
pub read_as : (d read_d : Data) → HasNumbers (outline d) → read (compact_text d) ≡ Some read_d → of_json (outline d) ≡ Some read_d
read_as d read_d numbers is =
    by_tree (json.value max_depth (json_tokens (outline d))) refl
    (sym (ap (λ (ts : List Token). option_and_then of_json (option_and_then (λ p. json.if_last p.0 p.1) (json.value max_depth ts))) (text_tokens d numbers)) ∙ is)
  where
    at_end : (j : json.Json) (rest : List Token) → json.value max_depth (json_tokens (outline d)) ≡ Some (j, rest)
        → option_and_then of_json (json.if_last j rest) ≡ Some read_d → of_json (outline d) ≡ Some read_d
    at_end j [] found given = ap of_json (one_tree (outline d) j [] (value-json_tokens_back max_depth (json_tokens (outline d)) [] j found)) ∙ given
    at_end j (t ∷ rest) found given = absurd (cc)

    by_tree : (v : Option (json.Json × List Token)) → json.value max_depth (json_tokens (outline d)) ≡ v
        → option_and_then of_json (option_and_then (λ p. json.if_last p.0 p.1) v) ≡ Some read_d → of_json (outline d) ≡ Some read_d
    by_tree None found given = absurd (cc)
    by_tree (Some (j, rest)) found given = at_end j rest found given
