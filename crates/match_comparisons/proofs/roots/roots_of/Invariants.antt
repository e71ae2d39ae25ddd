use Rattle.std.proofs.Common.{◌↔◌, ℕ, take}
use Rattle.std.specs.Prelude.{Contains}
use Rattle.match_comparisons.specs.inner.PositionSet.{AreOf}
use Rattle.match_comparisons.specs.inner.Roots.{IsSomeRoot}
use Rattle.match_comparisons.proofs.roots.roots_of.Given as goal

abbrev pub invariant-loop-observation : goal.invariant-loop-observation
invariant-loop-observation l = AreOf l.roots.items l.seen
    × ((at : ℕ) → Contains l.roots.items at ↔ IsSomeRoot (take l.observation-index l.observations) at)
