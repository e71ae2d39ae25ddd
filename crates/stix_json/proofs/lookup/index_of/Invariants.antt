use Rattle.std.proofs.Common.{◌≡◌, drop, map}
use Rattle.serde_json.specs.Find.{get_member}
use Rattle.stix_json.specs.DataOf.{field_data, members_of}
use Rattle.stix_json.proofs.lookup.index_of.Given as goal

abbrev pub invariant-loop-at : goal.invariant-loop-at
invariant-loop-at l =
    get_member l.name (members_of (map field_data l.fields)) ≡ get_member l.name (members_of (map field_data (drop l.at l.fields)))
