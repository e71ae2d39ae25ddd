use Rattle.std.proofs.Common.{◌≡◌, ◌≤◌, length}
use Rattle.std.specs.Prelude.{true, ◌&&◌}
use Rattle.std.specs.List.{Contains}
use Rattle.match_pruning.specs.PartialMatchTree.{PartialMatchTree}
use Rattle.match_pruning.specs.declared.join.Join.TheVariants as join
use Rattle.match_pruning.specs.inner.PartialMatches.{partial_match_tree, partial_match_trees}
use Rattle.match_pruning.specs.inner.Steps.{may_join, joined_matches}
use Rattle.match_pruning.specs.inner.Needed.{is_needed}
use Rattle.match_pruning.specs.inner.PendingLefts.{pending_lefts_of}
use Rattle.match_pruning.proofs.BegunLemmas.{IsAmongFirst}
use Rattle.match_pruning.proofs.needed.+is_needed.Given as goal

abbrev pub decreases-is_needed : goal.decreases-is_needed
decreases-is_needed l = length l.pending_lefts.now

abbrev pub decreases-loop-at : goal.decreases-loop-at
decreases-loop-at l = l.end

abbrev pub invariant-loop-at : goal.invariant-loop-at
invariant-loop-at l = record {
  within : l.end ≤ length l.innermost.left.held.items;
  rest : (left : PartialMatchTree) → Contains (partial_match_trees l.innermost.left.held.items) left →
      (may_join join.Then left (partial_match_tree l.partial_match) && is_needed l.now (pending_lefts_of l.above) (joined_matches join.Then left (partial_match_tree l.partial_match))) ≡ true →
      IsAmongFirst l.innermost.left.held.items l.end left;
}
