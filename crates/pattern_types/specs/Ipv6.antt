-- The text of an IPv6 address (RFC 4291, section 2.2).
use Rattle.std.specs.Prelude.{◌≡◌, ℕ, ◌/◌, ◌%◌, ◌^◌, ◌<◌, ◌≤◌, ◌⊎◌, List, [], ◌∷◌, ◌++◌, length, replicate, codes}
use Rattle.std.specs.List.{join_with_byte}
use Rattle.std.specs.Str.Parse.{IsNumeral, digits_value}
use Rattle.pattern_types.specs.Ipv4.{number_of, IsIpv4Text}

-- a group of 16 bits is one to four hexadecimal digits, of either case
pub record IsGroup (text : List ℕ) (group : ℕ) : Type 0 where
  pub digits : IsNumeral 16 text
  pub four_at_most : length text ≤ 4
  pub value : digits_value 16 text ≡ group

-- each text is that of the group at its index
abbrev pub AreGroups : List (List ℕ) → List ℕ → Type 0
AreGroups [] [] = Unit {0}
AreGroups (text ∷ texts) (group ∷ groups) = IsGroup text group × AreGroups texts groups
AreGroups [] (group ∷ groups) = ⊥
AreGroups (text ∷ texts) [] = ⊥

-- groups joined by colons, or nothing
pub record IsGroupsText (text groups : List ℕ) : Type 0 where
  pub texts : List (List ℕ)
  pub each : AreGroups texts groups
  pub spelled : text ≡ join_with_byte 58 texts

-- groups joined by colons, with the last two written as an IPv4 address
pub record EndsInIpv4 (text groups : List ℕ) : Type 0 where
  pub texts : List (List ℕ)
  pub front : List ℕ
  pub last : List ℕ
  pub number : ℕ
  pub each : AreGroups texts front
  pub ipv4 : IsIpv4Text last number
  pub spelled : text ≡ join_with_byte 58 (texts ++ last ∷ [])
  pub value : groups ≡ front ++ number / 2 ^ 16 ∷ number % 2 ^ 16 ∷ []

-- the groups at the end of an address, in either way
abbrev pub IsEndText : List ℕ → List ℕ → Type 0
IsEndText text groups = IsGroupsText text groups ⊎ EndsInIpv4 text groups

-- one `::` in place of one zero group or more
pub record IsShortened (text groups : List ℕ) : Type 0 where
  pub left_text : List ℕ
  pub right_text : List ℕ
  pub left : List ℕ
  pub right : List ℕ
  pub zeros : ℕ
  pub some_zeros : 0 < zeros
  pub left_groups : IsGroupsText left_text left
  pub right_groups : IsEndText right_text right
  pub spelled : text ≡ left_text ++ codes "::" ++ right_text
  pub value : groups ≡ left ++ replicate zeros 0 ++ right

-- eight groups, written whole or shortened
pub record IsIpv6Text (text : List ℕ) (number : ℕ) : Type 0 where
  pub groups : List ℕ
  pub eight : length groups ≡ 8
  pub spelled : IsEndText text groups ⊎ IsShortened text groups
  pub value : number ≡ number_of (2 ^ 16) groups
