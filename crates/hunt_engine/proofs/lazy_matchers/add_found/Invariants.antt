use Rattle.std.proofs.Common.{◌≡◌, ◌++◌}
use Rattle.std.specs.Prelude.{map}
use Rattle.hunt_engine.specs.inner.Round.{found_of}
use Rattle.hunt_engine.proofs.lazy_matchers.add_found.Given as goal

abbrev pub invariant-loop-bind : goal.invariant-loop-bind
invariant-loop-bind l = l.found.items ≡ l.fn.found.items ++ map (found_of l.position) l.yielded
