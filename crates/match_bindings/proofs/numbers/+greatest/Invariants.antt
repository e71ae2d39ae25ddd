use Rattle.std.proofs.Common.{◌≡◌}
use Rattle.std.specs.Prelude.{drop, map}
use Rattle.match_bindings.specs.BindTree.{tree_of, greatest, many_of}
use Rattle.match_bindings.proofs.PartsLemmas.{greatest_from}
use Rattle.match_bindings.proofs.numbers.+greatest.Given as goal

abbrev pub invariant-greatest_of_all-loop-bind : goal.invariant-greatest_of_all-loop-bind
invariant-greatest_of_all-loop-bind l =
    greatest (many_of (map tree_of l.binds)) ≡ greatest_from l.most (map tree_of (drop l.bind-index l.binds))
