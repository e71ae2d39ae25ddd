-- Members in a row, as the fields of an object are made.
use Rattle.std.specs.Prelude.{ℕ, List, [], ◌∷◌, map, codes}
use Rattle.serde_json.specs.Data.{Data, unsigned, number, string, array}
use Rattle.serde_json.specs.View.{items_of}
use Rattle.stix_json.specs.DataOf.{Member, field_data}
use Rattle.taxii_bodies.specs.declared.fields.Fields.{Fields}
use Rattle.taxii_bodies.specs.declared.status.StatusReport.{StatusReport}
use Rattle.taxii_bodies.specs.Status.{status_id_of}

-- the members that the fields of an object are
abbrev pub members_in : Fields → List Member
members_in fields = map field_data fields.fields.items

-- a list under a name, where it is not empty
abbrev pub list_member : List ℕ → List Data → List Member
list_member name [] = []
list_member name (value ∷ values) = record { name = name; value = array (items_of (value ∷ values)) } ∷ []

-- what stands between the lists of a status
abbrev pub middle_members : StatusReport → List ℕ → List Member
middle_members report moment =
    record { name = codes "id"; value = string (status_id_of report.number) }
    ∷ record { name = codes "pending_count"; value = number (unsigned 0) }
    ∷ record { name = codes "request_timestamp"; value = string moment }
    ∷ record { name = codes "status"; value = string (codes "complete") }
    ∷ record { name = codes "success_count"; value = number (unsigned report.success_count) }
    ∷ []
