use Rattle.std.proofs.Common.{◌≡◌, map, take}
use Rattle.stix_json.specs.DataOf.{data_of, field_data}
use Rattle.stix_versions.proofs.same.+same.Given as goal

abbrev pub invariant-are_same_fields-loop-at : goal.invariant-are_same_fields-loop-at
invariant-are_same_fields-loop-at l = map field_data (take l.at l.first) ≡ map field_data (take l.at l.second)

abbrev pub invariant-are_same_items-loop-at : goal.invariant-are_same_items-loop-at
invariant-are_same_items-loop-at l = map data_of (take l.at l.first) ≡ map data_of (take l.at l.second)
