-- One block's addresses are among another's exactly where the other has no more leading bits and both
-- agree on these. Stated over numbers.
use Rattle.std.proofs.Common.{◌≡◌, ℕ, ◌+◌, ◌-◌, ◌*◌, ◌/◌, ◌^◌, ◌<◌, ◌≤◌, refl, sym, ap, ◌∙◌, subst, arith, inl, inr}
use Rattle.std.proofs.lemmas.Nat.{pow_pos, pow-add, shl-shr, shr-shr, shr_high, shr_below, pow_below, mul-add-lt}
use Rattle.std.proofs.lemmas.Bool.{cases_lt}
use Rattle.pattern_types.specs.Block.{leading, IsInBlock, IsNarrower}

-- a multiple of a power of two, over a smaller one
begins : (n whole i j : ℕ) → i + j ≡ whole → n * 2 ^ whole ≡ n * 2 ^ i * 2 ^ j
begins n whole i j parts =
    let power : 2 ^ whole ≡ 2 ^ i * 2 ^ j = ap (λ k. 2 ^ k) (sym parts) ∙ pow-add 2 i j in
    ap (λ p. n * p) power ∙ omega arith

quotient : (n q k : ℕ) → n ≡ q * 2 ^ k → n / 2 ^ k ≡ q
quotient n q k same = ap (λ m. m / 2 ^ k) same ∙ shl-shr q k

module _ (width net bits outer_net outer_bits : ℕ) (fits : net < 2 ^ width) (bits_fit : bits ≤ width) (outer_fit : outer_bits ≤ width) where
  -- fewer leading bits are leading bits of the leading bits
  leading_less : outer_bits ≤ bits → (number : ℕ) → leading width outer_bits number ≡ leading width bits number / 2 ^ (bits - outer_bits)
  leading_less fewer number =
      let apart : width - bits + (bits - outer_bits) ≡ width - outer_bits = omega arith in
      ap (λ k. number / 2 ^ k) (sym apart) ∙ sym (shr-shr number (width - bits) (bits - outer_bits))

  pub narrower_from : outer_bits ≤ bits → leading width outer_bits net ≡ leading width outer_bits outer_net → IsNarrower width net bits outer_net outer_bits
  narrower_from fewer same address is_in = record {
    fits = is_in.fits;
    shares = leading_less fewer address ∙ ap (λ n. n / 2 ^ (bits - outer_bits)) is_in.shares ∙ sym (leading_less fewer net) ∙ same;
  }

  pub same_leading : IsNarrower width net bits outer_net outer_bits → leading width outer_bits net ≡ leading width outer_bits outer_net
  same_leading narrower = (narrower net (record { fits = fits; shares = refl })).shares

  powers : (i j : ℕ) → i + j ≡ width → 2 ^ width ≡ 2 ^ i * 2 ^ j
  powers i j whole = ap (λ k. 2 ^ k) (sym whole) ∙ pow-add 2 i j

  -- the block's number that ends in r is one of its addresses
  ending_in : (r : ℕ) → r < 2 ^ (width - bits) → IsInBlock width net bits (leading width bits net * 2 ^ (width - bits) + r)
  ending_in r small =
      let host = width - bits in
      let whole : bits + host ≡ width = omega arith in
      let top : net / 2 ^ host < 2 ^ bits = shr_below net bits host (rw whole fits) in
      let below = mul-add-lt (net / 2 ^ host) (2 ^ host) r (2 ^ bits) top small in
      record {
        fits = let Below : ℕ → Type 0 = λ limit. net / 2 ^ host * 2 ^ host + r < limit in subst Below (sym (powers host bits (omega arith))) below;
        shares = shr_high (net / 2 ^ host) host r small;
      }

  -- with more leading bits than the inner one, the outer block would miss the second of two addresses
  pub fewer_leading : IsNarrower width net bits outer_net outer_bits → outer_bits ≤ bits
  fewer_leading narrower =
      let host = width - bits in
      let outer_host = width - outer_bits in
      elim (cases_lt bits outer_bits) [
        | inl more ↦
            let shorter : outer_host < host = omega arith in
            let apart : host - outer_host + outer_host ≡ host = omega arith in
            let blocks = net / 2 ^ host * 2 ^ (host - outer_host) in
            let start : net / 2 ^ host * 2 ^ host ≡ blocks * 2 ^ outer_host = begins (net / 2 ^ host) host (host - outer_host) outer_host apart in
            let first = (narrower _ (ending_in 0 (pow_pos host))).shares in
            let second = (narrower _ (ending_in (2 ^ outer_host) (pow_below outer_host host shorter))).shares in
            let first_is : (net / 2 ^ host * 2 ^ host + 0) / 2 ^ outer_host ≡ blocks = quotient _ blocks outer_host (omega arith) in
            let second_is : (net / 2 ^ host * 2 ^ host + 2 ^ outer_host) / 2 ^ outer_host ≡ blocks + 1 = quotient _ (blocks + 1) outer_host (omega arith) in
            absurd (omega (arith, sym first_is ∙ first, sym second_is ∙ second))
        | inr fewer ↦ fewer
      ]
