use Rattle.std.proofs.Common.{◌↔◌, drop, map}
use Rattle.stix_json.specs.DataOf.{field_data, members_of}
use Rattle.stix_objects.specs.Singles.{AreTexts}
use Rattle.stix_objects.proofs.single.are_texts.Given as goal

abbrev pub invariant-loop-field : goal.invariant-loop-field
invariant-loop-field l =
    AreTexts (members_of (map field_data l.fields)) ↔ AreTexts (members_of (map field_data (drop l.field-index l.fields)))
