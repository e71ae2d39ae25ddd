use Rattle.std.proofs.Common.{◌≡◌}
use Rattle.std.specs.Prelude.{drop, map}
use Rattle.match_bindings.specs.BindTree.{tree_of, disjoint, many_of}
use Rattle.match_bindings.proofs.PartsLemmas.{all_apart}
use Rattle.match_bindings.proofs.numbers.+disjoint.Given as goal

abbrev pub invariant-all_disjoint-loop-bind : goal.invariant-all_disjoint-loop-bind
invariant-all_disjoint-loop-bind l =
    disjoint (many_of (map tree_of l.binds)) (tree_of l.other) ≡ all_apart (map tree_of (drop l.bind-index l.binds)) (tree_of l.other)
