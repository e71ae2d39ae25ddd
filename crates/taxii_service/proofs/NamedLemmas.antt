-- A value without breaks has an identifier, so a store keeps something of it.
use Rattle.serde_json.specs.Data.{Data}
use Rattle.stix_ids.specs.declared.id.Id.{Id}
use Rattle.stix_objects.specs.Properties.{HasId}
use Rattle.stix_objects.specs.Sound.{IsNamed}

pub named_has_id : (d : Data) → IsNamed d → (id : Id) × HasId d id
named_has_id d named = (
  record { kind = named.type; number = named.number },
  record { text = named.text; there = named.named; reads = named.id },
)
