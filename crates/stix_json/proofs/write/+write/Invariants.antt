use Rattle.std.proofs.Common.{◌≡◌, map, take, ◌++◌}
use Rattle.stix_json.specs.DataOf.{data_of, field_data}
use Rattle.stix_json.proofs.WriteLemmas.{front, member_front}
use Rattle.stix_json.proofs.write.+write.Given as goal

abbrev pub invariant-write_items-loop-item : goal.invariant-write_items-loop-item
invariant-write_items-loop-item l =
    (l.out.before ≡ l.initial.out.before) × (l.out.tokens ≡ l.initial.out.tokens ++ front (map data_of (take l.item-index l.fn.items)))

abbrev pub invariant-write_fields-loop-field : goal.invariant-write_fields-loop-field
invariant-write_fields-loop-field l =
    (l.out.before ≡ l.initial.out.before) × (l.out.tokens ≡ l.initial.out.tokens ++ member_front (map field_data (take l.field-index l.fn.fields)))
