use Rattle.std.proofs.Common.{option_map}
use Rattle.serde_json.specs.Find.{get as member_of}
use Rattle.stix_json.specs.DataOf.{data_of}
use Rattle.stix_objects.specs.Forms.{ChecksHere}
use Rattle.stix_objects.specs.inner.Views.{single_view, item_break_view}
use Rattle.stix_objects.proofs.CheckingLemmas.{value_there}
use Rattle.stix_objects.proofs.records.check_part.Goals as goal

pub returns-in-Some : goal.returns-in-Some
returns-in-Some c =
    let name = c.in-Must.name.now in
    rw c.in-Must.is (value_there (Unit {0}) name (ChecksHere (single_view c.in-Must.single)) (member_of name (data_of c.args.object.now)) (data_of c.in-Some.value.now)
    (option_map item_break_view c.check_in.result) c.in-Some.ensures c.check_in.ensures)

pub returns-in-Some-get : goal.returns-in-Some-get
returns-in-Some-get c =
    let name = c.in-May.name.now in
    rw c.in-May.is (value_there ⊥ name (ChecksHere (single_view c.in-May.single)) (member_of name (data_of c.args.object.now)) (data_of c.in-Some-get.value.now)
    (option_map item_break_view c.check_in-in-Some-get.result) c.in-Some-get.ensures c.check_in-in-Some-get.ensures)
