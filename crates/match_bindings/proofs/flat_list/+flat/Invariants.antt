use Rattle.std.proofs.Common.{◌≡◌, ◌++◌}
use Rattle.std.specs.Prelude.{take, map}
use Rattle.std.specs.List.{flat_map}
use Rattle.match_bindings.specs.BindTree.{tree_of}
use Rattle.match_bindings.specs.Flat.{flat}
use Rattle.match_bindings.proofs.flat_list.+flat.Given as goal

abbrev pub invariant-push_flats-loop-bind : goal.invariant-push_flats-loop-bind
invariant-push_flats-loop-bind l = l.out.items ≡ l.fn.out.items ++ flat_map flat (map tree_of (take l.bind-index l.binds))
