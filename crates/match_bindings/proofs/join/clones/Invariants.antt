use Rattle.std.proofs.Common.{◌≡◌}
use Rattle.std.specs.Prelude.{take, map}
use Rattle.match_bindings.specs.BindTree.{tree_of}
use Rattle.match_bindings.proofs.join.clones.Given as goal

abbrev pub invariant-loop-bind : goal.invariant-loop-bind
invariant-loop-bind l = map tree_of l.clones ≡ map tree_of (take l.bind-index l.binds)
