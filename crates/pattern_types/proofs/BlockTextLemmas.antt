-- A text that was cut at its slash spells a block exactly where its address spells an address in std's
-- words, and its length a length: which block, and no other.
use Rattle.std.proofs.Common.{◌≡◌, ℕ, ◌<◌, ◌≤◌, inl, inr, List, [], ◌∷◌, ◌++◌, decimal, ◌↔◌, Option, Some, None, Result, Ok, Err, refl, sym, ap, ◌∙◌, subst, arith}
use Rattle.std.proofs.lemmas.List.{append-nil}
use Rattle.std.proofs.lemmas.Fmt.{decimal_injective}
use Rattle.std.specs.Borrow.{Bor}
use Rattle.std.specs.declared.net.ipv4_addr.Ipv4Addr.{Ipv4Addr}
use Rattle.std.specs.declared.net.ipv6_addr.Ipv6Addr.{Ipv6Addr}
use Rattle.std.specs.declared.net.ip_addr.IpAddr.{IpAddr}
use Rattle.std.specs.declared.net.ip_addr.IpAddr.TheVariants as Ip
use Rattle.std.specs.Net.Addr.{ipv4_octets, ipv4_bits, ipv6_segments, ipv6_bits}
use Rattle.std.specs.Net.Grammar.{IsIpText, Parses}
use Rattle.std.specs.Option.{option_map}
use Rattle.std.specs.Result.{result_ok}
use Rattle.std.proofs.NetLemmas.Theorems.{IsIpText_unique}
use Rattle.pattern_types.specs.declared.block.Block.{Block}
use Rattle.pattern_types.specs.declared.block.Block.TheVariants.{V4, V6}
use Rattle.pattern_types.specs.Block.{masked, IsValidBlock}
use Rattle.pattern_types.specs.BlockText.{IsLengthText, IsTextOfBlock, IsBlockText}
use Rattle.pattern_types.specs.Slash.{HasNoSlash, CutsAtSlash}
use Rattle.pattern_types.specs.PrefixLength.{IsPrefixLength}
use Rattle.pattern_types.specs.Ipv4.{IsIpv4Text}
use Rattle.pattern_types.specs.Ipv6.{IsIpv6Text}
use Rattle.pattern_types.proofs.Ipv4Lemmas.{IsIpv4Text-from_std, octets_of_text}
use Rattle.pattern_types.proofs.Ipv6Lemmas.{IsIpv6Text-from_std, segments_of_text}
use Rattle.pattern_types.proofs.SlashLemmas.{no_slash_ipv4, no_slash_ipv6, same_cut, no_cut}

-- the bits and the number of an address of std, and the block that it makes
abbrev pub width_of : IpAddr → ℕ
width_of (Ip.V4 a) = 32
width_of (Ip.V6 a) = 128

abbrev pub block_of : IpAddr → ℕ → Block
block_of (Ip.V4 a) bits = V4 (masked 32 bits (ipv4_bits a)) bits
block_of (Ip.V6 a) bits = V6 (masked 128 bits (ipv6_bits a)) bits

module _ (IsAddress : List ℕ → ℕ → Type 0) (width : ℕ) (text address : List ℕ) where
  -- an address and a length put together
  joined : (length : Option (Bor (List ℕ))) (number bits : ℕ) → CutsAtSlash text address length → IsAddress address number → IsPrefixLength width length bits → IsTextOfBlock IsAddress width text (masked width bits number) bits
  joined None number bits cut is_address is_length = record {
    address = address;
    length = [];
    number = number;
    spelled = cut.0 ∙ sym (append-nil address);
    address_text = is_address;
    length_text = inl (refl, is_length);
    value = refl;
  }
  joined (Some digits) number bits cut is_address is_length = record {
    address = address;
    length = 47 ∷ digits.now;
    number = number;
    spelled = cut.0;
    address_text = is_address;
    length_text = inr (ap (λ rest. 47 ∷ rest) is_length.0, is_length.1);
    value = refl;
  }

  -- and taken apart, in one way: a part without a slash is the address, and what follows the length
  parted : (length : Option (Bor (List ℕ))) (part tail : List ℕ) (bits : ℕ) → HasNoSlash part → CutsAtSlash text address length → text ≡ part ++ tail → IsLengthText width tail bits → (part ≡ address) × IsPrefixLength width length bits
  parted None part tail bits clear cut spelled (inl none) =
      let whole : text ≡ part = spelled ∙ ap (λ rest. part ++ rest) none.0 ∙ append-nil part in
      (sym whole ∙ cut.0, none.1)
  parted None part tail bits clear cut spelled (inr some) =
      let slash : text ≡ part ++ 47 ∷ decimal bits = spelled ∙ ap (λ rest. part ++ rest) some.0 in
      absurd (no_cut part (decimal bits) (subst HasNoSlash (sym cut.0 ∙ slash) cut.1))
  parted (Some digits) part tail bits clear cut spelled (inl none) =
      let whole : text ≡ part = spelled ∙ ap (λ rest. part ++ rest) none.0 ∙ append-nil part in
      absurd (no_cut address digits.now (subst HasNoSlash (sym whole ∙ cut.0) clear))
  parted (Some digits) part tail bits clear cut spelled (inr some) =
      let slash : text ≡ part ++ 47 ∷ decimal bits = spelled ∙ ap (λ rest. part ++ rest) some.0 in
      let same = same_cut part address (decimal bits) digits.now clear cut.1 (sym slash ∙ cut.0) in
      (same.0, (sym same.1, some.1))

module _ (text address : List ℕ) (length : Option (Bor (List ℕ))) (cut : CutsAtSlash text address length) where
  pub spells : (ip : IpAddr) (bits : ℕ) → IsIpText address ip → IsPrefixLength (width_of ip) length bits → IsBlockText text (block_of ip bits)
  unfolding ipv4_bits ipv6_bits
  spells (Ip.V4 a) bits is_ip is_length =
      joined IsIpv4Text 32 text address length (ipv4_bits a) bits cut (IsIpv4Text-from_std address (ipv4_octets a) is_ip) is_length
  spells (Ip.V6 a) bits is_ip is_length =
      joined IsIpv6Text 128 text address length (ipv6_bits a) bits cut (IsIpv6Text-from_std address (ipv6_segments a) is_ip) is_length

  -- a block that the text spells comes from an address that the address text spells
  record Comes (block : Block) : Type 0 where
    ip : IpAddr
    bits : ℕ
    is_ip : IsIpText address ip
    is_length : IsPrefixLength (width_of ip) length bits
    value : block ≡ block_of ip bits

  comes : (block : Block) → IsBlockText text block → Comes block
  unfolding ipv4_bits ipv6_bits
  comes (V4 net bits) is_text =
      let clear = no_slash_ipv4 is_text.address is_text.number is_text.address_text in
      let parts = parted IsIpv4Text 32 text address length is_text.address is_text.length bits clear cut is_text.spelled is_text.length_text in
      let octets = octets_of_text address is_text.number (subst (λ part. IsIpv4Text part is_text.number) parts.0 is_text.address_text) in
      let a : Ipv4Addr = record { octets = octets.octets } in
      record {
        ip = Ip.V4 a;
        bits = bits;
        is_ip = octets.dotted;
        is_length = parts.1;
        value = ap (λ net. V4 net bits) (is_text.value ∙ ap (masked 32 bits) (sym octets.value));
      }
  comes (V6 net bits) is_text =
      let clear = no_slash_ipv6 is_text.address is_text.number is_text.address_text in
      let parts = parted IsIpv6Text 128 text address length is_text.address is_text.length bits clear cut is_text.spelled is_text.length_text in
      let segments = segments_of_text address is_text.number (subst (λ part. IsIpv6Text part is_text.number) parts.0 is_text.address_text) in
      let a : Ipv6Addr = record { segments = segments.segments } in
      record {
        ip = Ip.V6 a;
        bits = bits;
        is_ip = segments.colon_hex;
        is_length = parts.1;
        value = ap (λ net. V6 net bits) (is_text.value ∙ ap (masked 128 bits) (sym segments.value));
      }

  -- so no other address gives a block
  pub spells_only : (ip : IpAddr) (block : Block) → IsIpText address ip → IsBlockText text block → (bits : ℕ) × IsPrefixLength (width_of ip) length bits × (block ≡ block_of ip bits)
  spells_only ip block is_ip is_text =
      let from = comes block is_text in
      let same = IsIpText_unique address from.ip ip from.is_ip is_ip in
      (from.bits, subst (λ ip. IsPrefixLength (width_of ip) length from.bits) same from.is_length, from.value ∙ ap (λ ip. block_of ip from.bits) same)

  pub spells_none : (block : Block) → ((ip : IpAddr) → ¬ (IsIpText address ip)) → ¬ (IsBlockText text block)
  spells_none block none is_text = let from = comes block is_text in none from.ip from.is_ip

  -- what is read of the length makes the block, and nothing else does
  pub spells_exactly : (ip : IpAddr) → IsIpText address ip → (found : Option ℕ) → ((bits : ℕ) → (found ≡ Some bits) ↔ IsPrefixLength (width_of ip) length bits) → (result : Option Block) → result ≡ option_map (block_of ip) found → (block : Block) → (result ≡ Some block) ↔ IsBlockText text block
  spells_exactly ip is_ip found exact result made block = (
    λ given. spelled_by found exact (sym made ∙ given),
    λ is_text.
        let only = spells_only ip block is_ip is_text in
        let read : found ≡ Some only.0 = (exact only.0).1 only.1 in
        made ∙ ap (option_map (block_of ip)) read ∙ ap Some (sym only.2),
  )
    where
      spelled_by : (found : Option ℕ) → ((bits : ℕ) → (found ≡ Some bits) ↔ IsPrefixLength (width_of ip) length bits) → option_map (block_of ip) found ≡ Some block → IsBlockText text block
      spelled_by None exact given = cc
      spelled_by (Some bits) exact given =
          let same : block_of ip bits ≡ block = cc in
          subst (IsBlockText text) same (spells ip bits is_ip ((exact bits).0 refl))

  pub spells_nothing : (result : Option Block) → result ≡ None → ((ip : IpAddr) → ¬ (IsIpText address ip)) → (block : Block) → (result ≡ Some block) ↔ IsBlockText text block
  spells_nothing result nothing none block =
      (λ given. cc (nothing, given), λ is_text. absurd (spells_none block none is_text))

-- the address of a parse that gave one, and that there is none where it failed
pub parsed_some : {E : Type 0} (text : List ℕ) (r : Result IpAddr E) (ip : IpAddr) → Parses IsIpText text r → result_ok r ≡ Some ip → IsIpText text ip
parsed_some text (Ok a) ip parses given = let same : a ≡ ip = cc in subst (IsIpText text) same parses
parsed_some text (Err e) ip parses given = cc

pub parsed_none : {E : Type 0} (text : List ℕ) (r : Result IpAddr E) → Parses IsIpText text r → result_ok r ≡ None → (ip : IpAddr) → ¬ (IsIpText text ip)
parsed_none text (Ok a) parses given = cc
parsed_none text (Err e) parses given = parses

-- and the block has no more bits than its family
pub block_of-valid : (ip : IpAddr) (bits : ℕ) → bits ≤ width_of ip → IsValidBlock (block_of ip bits)
block_of-valid (Ip.V4 a) bits within = within
block_of-valid (Ip.V6 a) bits within = within

-- a text is cut in one way, so it names one block
record Cut (text : List ℕ) : Type 0 where
  address : List ℕ
  length : Option (Bor (List ℕ))
  cut : CutsAtSlash text address length

cut_of : (text address tail : List ℕ) (width bits : ℕ) → HasNoSlash address → text ≡ address ++ tail → IsLengthText width tail bits → Cut text
cut_of text address tail width bits clear spelled (inl none) =
    record { address = address; length = None; cut = (spelled ∙ ap (λ rest. address ++ rest) none.0 ∙ append-nil address, clear) }
cut_of text address tail width bits clear spelled (inr some) =
    record { address = address; length = Some (record { ref_ptr = (0, 0); now = decimal bits }); cut = (spelled ∙ ap (λ rest. address ++ rest) some.0, clear) }

block_cut : (text : List ℕ) (block : Block) → IsBlockText text block → Cut text
block_cut text (V4 net bits) x = cut_of text x.address x.length 32 bits (no_slash_ipv4 x.address x.number x.address_text) x.spelled x.length_text
block_cut text (V6 net bits) x = cut_of text x.address x.length 128 bits (no_slash_ipv6 x.address x.number x.address_text) x.spelled x.length_text

same_length : (width : ℕ) (length : Option (Bor (List ℕ))) (m n : ℕ) → width < 256 → IsPrefixLength width length m → IsPrefixLength width length n → m ≡ n
same_length width None m n small x y = x ∙ sym y
same_length width (Some digits) m n small x y =
    let below = x.1 in
    let under = y.1 in
    decimal_injective m n (omega (arith, below, small)) (omega (arith, under, small)) (sym x.0 ∙ y.0)

small_width : (ip : IpAddr) → width_of ip < 256
small_width (Ip.V4 a) = omega arith
small_width (Ip.V6 a) = omega arith

pub one_named : (text : List ℕ) (a b : Block) → IsBlockText text a → IsBlockText text b → a ≡ b
one_named text a b x y =
    let c = block_cut text a x in
    let p = comes text c.address c.length c.cut a x in
    let q = spells_only text c.address c.length c.cut p.ip b p.is_ip y in
    p.value ∙ ap (block_of p.ip) (same_length (width_of p.ip) c.length p.bits q.0 (small_width p.ip) p.is_length q.1) ∙ sym q.2

length_within : (width : ℕ) (tail : List ℕ) (bits : ℕ) → IsLengthText width tail bits → bits ≤ width
length_within width tail bits (inl none) = let e = none.1 in omega (arith, e)
length_within width tail bits (inr some) = some.1

pub named_valid : (text : List ℕ) (block : Block) → IsBlockText text block → IsValidBlock block
named_valid text (V4 net bits) x = length_within 32 x.length bits x.length_text
named_valid text (V6 net bits) x = length_within 128 x.length bits x.length_text
