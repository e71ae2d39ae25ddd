use Rattle.std.proofs.Common.{◌≡◌, ◌++◌, map}
use Rattle.stix_bundles.specs.Bundle.{break_of_object}
use Rattle.stix_bundles.proofs.read.add_breaks.Given as goal

abbrev pub invariant-loop-broken : goal.invariant-loop-broken
invariant-loop-broken l =
    (l.fn.own ≡ l.yielded ++ l.broken-iterator.rest.items) × (l.found ≡ l.initial.found ++ map (break_of_object l.object) l.yielded)
