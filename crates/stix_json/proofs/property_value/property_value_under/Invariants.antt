use Rattle.std.proofs.Common.{◌≡◌, take, option_map}
use Rattle.stix_json.specs.declared.property_value.Property.{Property}
use Rattle.stix_json.specs.inner.PropertyValue.{property_name}
use Rattle.stix_json.specs.inner.Insertion.{last_named}
use Rattle.stix_json.proofs.property_value.property_value_under.Given as goal

abbrev pub invariant-loop-property : goal.invariant-loop-property
invariant-loop-property l =
    option_map (λ property_value. property_value.now) l.found ≡ option_map (λ (property : Property). property.property_value) (last_named property_name l.name (take l.property-index l.properties))
