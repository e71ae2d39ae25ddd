use Rattle.std.proofs.Common.{◌≡◌, ◌++◌}
use Rattle.std.specs.Prelude.{take}
use Rattle.match_stream.specs.inner.Nodes.{store_lists}
use Rattle.match_pruning.specs.inner.Numbers.{all_numbers}
use Rattle.match_stream.proofs.row_numbers.push_stores.Given as goal

abbrev pub invariant-loop-store : goal.invariant-loop-store
invariant-loop-store l = l.out.items ≡ l.fn.out.items ++ all_numbers (store_lists (take l.store-index l.stores))
