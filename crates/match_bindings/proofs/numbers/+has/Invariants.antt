use Rattle.std.proofs.Common.{◌≡◌}
use Rattle.std.specs.Prelude.{drop, map}
use Rattle.match_bindings.specs.BindTree.{tree_of, has, many_of}
use Rattle.match_bindings.proofs.PartsLemmas.{any_has}
use Rattle.match_bindings.proofs.numbers.+has.Given as goal

abbrev pub invariant-any_has_number-loop-bind : goal.invariant-any_has_number-loop-bind
invariant-any_has_number-loop-bind l =
    has l.number (many_of (map tree_of l.binds)) ≡ any_has l.number (map tree_of (drop l.bind-index l.binds))
