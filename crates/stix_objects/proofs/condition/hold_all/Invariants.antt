use Rattle.std.proofs.Common.{◌↔◌, drop, map}
use Rattle.stix_json.specs.DataOf.{data_of}
use Rattle.stix_objects.specs.Conditions.{HoldAll}
use Rattle.stix_objects.specs.inner.Views.{condition_view}
use Rattle.stix_objects.proofs.condition.hold_all.Given as goal

abbrev pub invariant-loop-condition : goal.invariant-loop-condition
invariant-loop-condition l =
    HoldAll (map condition_view l.conditions) (data_of l.object) ↔ HoldAll (map condition_view (drop l.condition-index l.conditions)) (data_of l.object)
