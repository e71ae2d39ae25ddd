use Rattle.std.proofs.Common.{◌↔◌, ◌⊎◌, ℕ, take}
use Rattle.std.specs.Prelude.{Contains}
use Rattle.match_comparisons.specs.inner.PositionSet.{AreOf}
use Rattle.match_comparisons.proofs.roots.add_roots.Given as goal

abbrev pub invariant-loop-at : goal.invariant-loop-at
invariant-loop-at l = AreOf l.roots.items l.seen
    × ((at : ℕ) → Contains l.roots.items at ↔ (Contains l.fn.roots.items at ⊎ Contains (take l.at-index l.own) at))
