use Rattle.std.proofs.Common.{◌≡◌, ◌<◌, ℕ, length}
use Rattle.std.specs.Prelude.{slice_index_or}
use Rattle.std.specs.List.{Contains}
use Rattle.match_pruning.specs.declared.key.SortKey.{SortKey}
use Rattle.match_pruning.specs.declared.partial_match.PartialMatch.{PartialMatch}
use Rattle.match_pruning.specs.inner.PartialMatches.{partial_match_tree}
use Rattle.match_pruning.specs.inner.SkipIndexes.{HasCommon}
use Rattle.match_pruning.proofs.skip_index.sorted_keys.Given as goal

abbrev pub invariant-places : goal.invariant-places
invariant-places l = record {
  each : (key : SortKey) → Contains l.keys.items key → (key.place < length l.candidates)
      × ((d : PartialMatch) → HasCommon key.numbers.items key.begin (partial_match_tree (slice_index_or l.candidates key.place d)));
  all : (place : ℕ) → place < l.place → (key : SortKey) × Contains l.keys.items key × (key.place ≡ place);
}
