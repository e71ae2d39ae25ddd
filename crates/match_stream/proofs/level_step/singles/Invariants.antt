use Rattle.std.proofs.Common.{◌≡◌}
use Rattle.std.specs.Prelude.{take, map}
use Rattle.match_bindings.specs.BindTree.{Single}
use Rattle.match_pruning.specs.inner.PartialMatches.{partial_match_trees}
use Rattle.match_pruning.specs.inner.Steps.{held_with}
use Rattle.match_stream.proofs.level_step.singles.Given as goal

abbrev pub invariant-loop-part : goal.invariant-loop-part
invariant-loop-part l = partial_match_trees l.sets.items ≡ map (held_with Single) (partial_match_trees (take l.part-index l.new))
