use Rattle.std.proofs.Common.{◌≡◌, ◌++◌}
use Rattle.hunt_engine.specs.inner.Table.{repeated}
use Rattle.hunt_engine.proofs.brackets.add_owner.Given as goal

abbrev pub invariant-loop : goal.invariant-loop
invariant-loop l = l.owners.items ≡ l.fn.owners.items ++ repeated l.position l.counter
