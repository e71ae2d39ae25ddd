-- Media types in the values of header fields: RFC 9110, sections 5.6.1 (lists), 5.6.3 (whitespace),
-- 5.6.6 (parameters), 8.3.1 (media types) and 12.5.1 (media ranges), without quoted commas and
-- semicolons, which no media type of TAXII 2.1 (section 1.6.8) has. Of the bytes, 9 is the tab, 32
-- the space, 44 `,`, 59 `;` and 61 `=`.
use Rattle.std.specs.Prelude.{◌≡◌, ◌⊎◌, ℕ, ◌-◌, ◌==◌, ◌||◌, Bool, List, length, take, drop, map, All, Any, codes}
use Rattle.std.specs.List.{slice_split, before_first, after_first, prefix_len, suffix_len}
use Rattle.std.specs.Char.{to_ascii_lowercase}
use Rattle.taxii_routes.specs.Value.{is_comma}

-- OWS = *( SP / HTAB )
abbrev pub is_optional_space : ℕ → Bool
is_optional_space byte = byte == 32 || byte == 9

-- the text without the whitespace that it begins with
abbrev pub without_front : List ℕ → List ℕ
without_front text = drop (prefix_len is_optional_space text) text

-- the text without the whitespace that it ends with
abbrev pub without_back : List ℕ → List ℕ
without_back text = take (length text - suffix_len is_optional_space text) text

-- the text without the whitespace at both ends
abbrev pub trimmed : List ℕ → List ℕ
trimmed text = without_back (without_front text)

-- the text, trimmed, is the name, in letters of either case
abbrev pub IsNamedRange : List ℕ → List ℕ → Type 0
IsNamedRange name text = map to_ascii_lowercase (trimmed text) ≡ map to_ascii_lowercase name

abbrev pub is_semicolon : ℕ → Bool
is_semicolon byte = byte == 59

abbrev pub is_equals_sign : ℕ → Bool
is_equals_sign byte = byte == 61

-- what stands before the parameters
abbrev pub range_of : List ℕ → List ℕ
range_of text = before_first is_semicolon text

-- parameters = *( OWS ";" OWS [ parameter ] ): the parts after the first semicolon
abbrev pub parameters_of : List ℕ → List (List ℕ)
parameters_of text = drop 1 (slice_split is_semicolon text)

-- parameter = parameter-name "=" parameter-value
abbrev pub parameter_name : List ℕ → List ℕ
parameter_name parameter = before_first is_equals_sign parameter

abbrev pub parameter_value : List ℕ → List ℕ
parameter_value parameter = after_first is_equals_sign parameter

-- the version 2.1, as a token or quoted
abbrev pub IsMediaTypeVersion : List ℕ → Type 0
IsMediaTypeVersion value = (trimmed value ≡ codes "2.1") ⊎ (trimmed value ≡ codes "\"2.1\"")

-- a parameter that is named `version` says 2.1
abbrev pub NamesNoOtherVersion : List ℕ → Type 0
NamesNoOtherVersion parameter = IsNamedRange (codes "version") (parameter_name parameter) → IsMediaTypeVersion (parameter_value parameter)

-- application/taxii+json, and no version but 2.1
pub record IsTaxii (text : List ℕ) : Type 0 where
  pub name : IsNamedRange (codes "application/taxii+json") (range_of text)
  pub version : All NamesNoOtherVersion (parameters_of text)

-- a media range that takes in every type of which TAXII's is one
abbrev pub IsWildcard : List ℕ → Type 0
IsWildcard text = IsNamedRange (codes "*/*") (range_of text) ⊎ IsNamedRange (codes "application/*") (range_of text)

-- Accept = #( media-range [ weight ] ): some member of the list is TAXII's type, or a range that
-- takes it in
abbrev pub Accepts : List ℕ → Type 0
Accepts text = Any (λ member. IsTaxii member ⊎ IsWildcard member) (slice_split is_comma text)
