-- The rules of specs/Kind.antt byte by byte. proofs/KindLemmas.antt proves that both agree.
use Rattle.std.specs.Prelude.{◌≡◌, ◌≢◌, ℕ, ◌-◌, ◌<◌, List, slice_index}
use Rattle.stix_ids.specs.Kind.{IsKindByte}

-- the byte at this offset may stand there in a kind
pub record FitsAt (text : List ℕ) (at : ℕ) : Type 0 where
  pub place : at < 250
  pub byte : IsKindByte (slice_index text at)
  pub hyphen : 0 < at → slice_index text (at - 1) ≡ 45 → slice_index text at ≢ 45
