use Rattle.std.proofs.Common.{ℕ}
use Rattle.match_comparisons.specs.inner.PositionSet.{IsInPositions}
use Rattle.match_comparisons.proofs.FoundLemmas.{NoneBefore}
use Rattle.match_comparisons.proofs.rows.has_some.Given as goal

abbrev pub invariant-loop-root : goal.invariant-loop-root
invariant-loop-root l = NoneBefore (λ (root : ℕ). IsInPositions l.position_set root) l.roots l.root-index
