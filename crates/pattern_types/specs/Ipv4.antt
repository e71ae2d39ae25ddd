-- The text of an IPv4 address, as in RFC 3986, section 3.2.2, and RFC 4291, section 2.2.
use Rattle.std.specs.Prelude.{◌≡◌, ℕ, ◌+◌, ◌*◌, ◌<◌, List, length, map, fold, decimal, All}
use Rattle.std.specs.List.{join_with_byte}

-- the number with these digits in the base, the highest first
abbrev pub number_of : ℕ → List ℕ → ℕ
number_of base digits = fold (λ number digit. number * base + digit) 0 digits

-- IPv4address = four numbers below 256 in decimal, without leading zeros, joined by dots
pub record IsIpv4Text (text : List ℕ) (number : ℕ) : Type 0 where
  pub parts : List ℕ
  pub four : length parts ≡ 4
  pub small : All (λ part. part < 256) parts
  pub spelled : text ≡ join_with_byte 46 (map decimal parts)
  pub value : number ≡ number_of 256 parts
