use Rattle.std.proofs.Common.{◌≡◌, ◌++◌}
use Rattle.std.specs.Prelude.{take, map}
use Rattle.std.specs.List.{flat_map}
use Rattle.match_bindings.specs.BindTree.{tree_of}
use Rattle.match_pruning.specs.inner.Numbers.{numbers}
use Rattle.match_pruning.proofs.numbers.+numbers.Given as goal

abbrev pub invariant-push_all_numbers-loop-bind : goal.invariant-push_all_numbers-loop-bind
invariant-push_all_numbers-loop-bind l = l.out.items ≡ l.fn.out.items ++ flat_map numbers (map tree_of (take l.bind-index l.binds))
