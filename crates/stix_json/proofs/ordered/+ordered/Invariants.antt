use Rattle.std.proofs.Common.{◌↔◌, map, drop}
use Rattle.serde_json.specs.View.{items_of}
use Rattle.stix_json.specs.DataOf.{data_of, field_data, members_of}
use Rattle.stix_json.specs.Ordered.{ItemsAreOrdered, MembersAreOrdered}
use Rattle.stix_json.proofs.ordered.+ordered.Given as goal

abbrev pub invariant-are_ordered_fields-loop-at : goal.invariant-are_ordered_fields-loop-at
invariant-are_ordered_fields-loop-at l =
    MembersAreOrdered (members_of (map field_data l.fields)) ↔ MembersAreOrdered (members_of (map field_data (drop l.at l.fields)))

abbrev pub invariant-are_ordered_items-loop-item : goal.invariant-are_ordered_items-loop-item
invariant-are_ordered_items-loop-item l =
    ItemsAreOrdered (items_of (map data_of l.items)) ↔ ItemsAreOrdered (items_of (map data_of (drop l.item-index l.items)))
