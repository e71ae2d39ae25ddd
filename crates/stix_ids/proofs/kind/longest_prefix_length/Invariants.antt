use Rattle.std.proofs.Common.{◌≡◌, ℕ, ◌<◌, slice_index, ◌∷◌}
use Rattle.stix_ids.specs.KindBytes.{FitsAt}
use Rattle.stix_ids.proofs.kind.longest_prefix_length.Given as goal

abbrev pub invariant-loop-at : goal.invariant-loop-at
invariant-loop-at l = record {
  fits : (k : ℕ) → k < l.at → FitsAt l.bytes k;
  last : l.before ≡ slice_index (0 ∷ l.bytes) l.at;
}
