use Rattle.std.proofs.Common.{◌≡◌, ◌+◌, length, take}
use Rattle.match_pruning.specs.inner.PartialMatches.{partial_match_trees}
use Rattle.match_pruning.specs.inner.Steps.{kept}
use Rattle.match_stream.proofs.budget.Budget.take_admitted.Given as goal

abbrev pub invariant-loop-partial_match : goal.invariant-loop-partial_match
invariant-loop-partial_match l = l.self.left + length (kept l.window l.now (partial_match_trees (take l.partial_match-index l.new))) ≡ l.fn.self.left
