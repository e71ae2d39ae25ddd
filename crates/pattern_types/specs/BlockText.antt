-- The text of a block (RFC 4632, section 3.1; RFC 4291, section 2.3).
use Rattle.std.specs.Prelude.{◌≡◌, ℕ, ◌≤◌, ◌⊎◌, List, [], ◌∷◌, ◌++◌, decimal}
use Rattle.pattern_types.specs.declared.block.Block.{Block}
use Rattle.pattern_types.specs.declared.block.Block.TheVariants.{V4, V6}
use Rattle.pattern_types.specs.Block.{masked}
use Rattle.pattern_types.specs.Ipv4.{IsIpv4Text}
use Rattle.pattern_types.specs.Ipv6.{IsIpv6Text}

-- what may follow the address: nothing, for all bits, or `/` and the prefix length in decimal
-- without leading zeros
abbrev pub IsLengthText : ℕ → List ℕ → ℕ → Type 0
IsLengthText width text bits = ((text ≡ []) × (bits ≡ width))
    ⊎ ((text ≡ 47 ∷ decimal bits) × (bits ≤ width))

-- an address and a prefix length; the network number is the address without its host bits
pub record IsTextOfBlock (IsAddress : List ℕ → ℕ → Type 0) (width : ℕ) (text : List ℕ) (net bits : ℕ) : Type 0 where
  pub address : List ℕ
  pub length : List ℕ
  pub number : ℕ
  pub spelled : text ≡ address ++ length
  pub address_text : IsAddress address number
  pub length_text : IsLengthText width length bits
  pub value : net ≡ masked width bits number

-- the text names the block
abbrev pub IsBlockText : List ℕ → Block → Type 0
IsBlockText text (V4 net bits) = IsTextOfBlock IsIpv4Text 32 text net bits
IsBlockText text (V6 net bits) = IsTextOfBlock IsIpv6Text 128 text net bits
