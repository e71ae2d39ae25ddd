use Rattle.std.proofs.Common.{◌≡◌, ◌++◌, take, drop, length}
use Rattle.std.specs.Prelude.{map}
use Rattle.match_bindings.specs.BindTree.{Second}
use Rattle.match_pruning.specs.inner.PartialMatches.{partial_match_trees}
use Rattle.match_pruning.specs.inner.Steps.{held_with}
use Rattle.match_stream.proofs.node.wrap_seconds.Given as goal

abbrev pub invariant-loop-partial_match : goal.invariant-loop-partial_match
invariant-loop-partial_match l = record {
  wrapped : partial_match_trees l.partial_match-items ≡ map (held_with Second) (partial_match_trees (take l.partial_match-index l.fn.held.items)) ++ partial_match_trees (drop l.partial_match-index l.fn.held.items);
  length : length l.partial_match-items ≡ length l.fn.held.items;
}
