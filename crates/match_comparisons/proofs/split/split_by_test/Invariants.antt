use Rattle.std.proofs.Common.{ℕ, take}
use Rattle.stix_bundles.specs.Objects.{data_in}
use Rattle.match_comparisons.specs.Tests.{TestHolds}
use Rattle.match_comparisons.specs.inner.Search.{IsSoundSearchMemo}
use Rattle.match_comparisons.specs.inner.Splits.{SplitsPositions}
use Rattle.match_comparisons.proofs.split.split_by_test.Given as goal

abbrev pub invariant-loop-at : goal.invariant-loop-at
invariant-loop-at l = IsSoundSearchMemo l.search l.memo
    × SplitsPositions (λ (at : ℕ). TestHolds (data_in l.bundle) at l.test) (take l.at-index l.asked) l.split
