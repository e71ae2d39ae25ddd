use Rattle.std.proofs.Common.{◌≡◌, ◌++◌, take}
use Rattle.hunt_engine.proofs.RootBatchLemmas.{with_root}
use Rattle.hunt_engine.proofs.root_batch.add_pairs.Given as goal

abbrev pub invariant-loop-position : goal.invariant-loop-position
invariant-loop-position l = l.pairs.items ≡ l.fn.pairs.items ++ with_root l.root (take l.position-index l.positions)
