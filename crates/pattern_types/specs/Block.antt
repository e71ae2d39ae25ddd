-- CIDR blocks (RFC 4632, section 3.1; RFC 4291, section 2.3). An address is a number of its family,
-- below 2 ^ 32 in IPv4 and below 2 ^ 128 in IPv6.
use Rattle.std.specs.Prelude.{◌≡◌, ℕ, ◌-◌, ◌*◌, ◌/◌, ◌^◌, ◌<◌, ◌≤◌}
use Rattle.pattern_types.specs.declared.block.Block.{Block}
use Rattle.pattern_types.specs.declared.block.Block.TheVariants.{V4, V6}

-- the number of bits of an address of the block's family
abbrev pub width_of : Block → ℕ
width_of (V4 net bits) = 32
width_of (V6 net bits) = 128

-- the block's network number, and its prefix length
abbrev pub net_of : Block → ℕ
net_of (V4 net bits) = net
net_of (V6 net bits) = net

abbrev pub bits_of : Block → ℕ
bits_of (V4 net bits) = bits
bits_of (V6 net bits) = bits

-- the prefix is no longer than an address
abbrev pub IsValidBlock : Block → Type 0
IsValidBlock block = bits_of block ≤ width_of block

-- the first bits of a number of this width
abbrev pub leading : ℕ → ℕ → ℕ → ℕ
leading width bits number = number / 2 ^ (width - bits)

-- the number with its host bits set to zero
abbrev pub masked : ℕ → ℕ → ℕ → ℕ
masked width bits number = leading width bits number * 2 ^ (width - bits)

-- the address is in the block: it has the leading bits of the network number
pub record IsInBlock (width net bits address : ℕ) : Type 0 where
  pub fits : address < 2 ^ width
  pub shares : leading width bits address ≡ leading width bits net

-- each address of the one block is in the other, in one family
abbrev pub IsNarrower : ℕ → ℕ → ℕ → ℕ → ℕ → Type 0
IsNarrower width net bits outer_net outer_bits =
    (address : ℕ) → IsInBlock width net bits address → IsInBlock width outer_net outer_bits address

-- both blocks are of one family, and each address of the inner one is in the outer one
abbrev pub IsWithin : Block → Block → Type 0
IsWithin (V4 net bits) (V4 outer_net outer_bits) = IsNarrower 32 net bits outer_net outer_bits
IsWithin (V6 net bits) (V6 outer_net outer_bits) = IsNarrower 128 net bits outer_net outer_bits
IsWithin (V4 net bits) (V6 outer_net outer_bits) = ⊥
IsWithin (V6 net bits) (V4 outer_net outer_bits) = ⊥
