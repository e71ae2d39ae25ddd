use Rattle.std.proofs.Common.{take}
use Rattle.match_comparisons.specs.inner.PositionSet.{AreOf}
use Rattle.match_comparisons.proofs.rows.positions_of.Given as goal

abbrev pub invariant-loop-at : goal.invariant-loop-at
invariant-loop-at l = AreOf (take l.at-index l.list) l.position_set
