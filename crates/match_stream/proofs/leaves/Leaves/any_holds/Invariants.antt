use Rattle.std.proofs.Common.{◌≤◌}
use Rattle.match_pruning.specs.inner.Steps.{leaves_state, IsNonmatchingChain}
use Rattle.match_stream.proofs.leaves.Leaves.any_holds.Given as goal

abbrev pub invariant-loop-at : goal.invariant-loop-at
invariant-loop-at l = (l.at ≤ l.self.more) × IsNonmatchingChain l.truths (leaves_state l.self.first l.at l.self.window)
