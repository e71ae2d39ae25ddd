use Rattle.std.proofs.Common.{◌≡◌, length}
use Rattle.stix_json.specs.inner.PropertyValue.{property_name}
use Rattle.stix_json.specs.inner.Insertion.{last_named}
use Rattle.stix_json.proofs.property_value.take_property_value_under.Given as goal

abbrev pub invariant-loop-property : goal.invariant-loop-property
invariant-loop-property l =
    last_named property_name l.name l.fn.properties.items ≡ last_named property_name l.name l.properties.items

abbrev pub decreases-loop-property : goal.decreases-loop-property
decreases-loop-property l = length l.properties.items
