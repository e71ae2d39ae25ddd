use Rattle.std.proofs.Common.{◌≡◌}
use Rattle.std.specs.Prelude.{true}
use Rattle.std.specs.List.{Contains}
use Rattle.match_bindings.specs.BindTree.{BindTree, disjoint}
use Rattle.match_pruning.specs.PartialMatchTree.{PartialMatchTree}
use Rattle.match_pruning.specs.inner.Picks.{HasPerfectMatching}
use Rattle.match_pruning.specs.inner.PartialMatches.{partial_match_tree, partial_match_trees}
use Rattle.match_pruning.specs.inner.CompletionBounds.{may_precede}
use Rattle.match_pruning.proofs.PicksLemmas.{HasPicksTo}
use Rattle.match_pruning.proofs.completion_bound.CompletionBound.record_candidates.Given as goal

abbrev pub invariant-loop-place : goal.invariant-loop-place
invariant-loop-place l = record {
  earliest : l.self.earliest ≡ l.fn.self.earliest;
  picks : (left : PartialMatchTree) (x : BindTree) → Contains (partial_match_trees l.store.held.items) left → may_precede left l.bound (partial_match_tree l.partial_match) ≡ true →
      left.earliest ≡ l.fn.self.earliest → disjoint left.tree x ≡ true → HasPerfectMatching l.fn.self.matching.list.items x →
      HasPicksTo l.place l.self.matching.list.items left.tree x;
}
