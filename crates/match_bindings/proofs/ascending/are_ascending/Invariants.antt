use Rattle.std.proofs.Common.{◌≡◌}
use Rattle.std.specs.Prelude.{false}
use Rattle.std.specs.List.{AllAdjacentBelow}
use Rattle.match_bindings.specs.BindTree.{tree_of}
use Rattle.match_bindings.specs.Flat.{comes_before}
use Rattle.match_bindings.proofs.ascending.are_ascending.Given as goal

abbrev pub invariant-loop-at : goal.invariant-loop-at
invariant-loop-at l = AllAdjacentBelow (λ x y. comes_before (tree_of y) (tree_of x) ≡ false) l.binds l.at
