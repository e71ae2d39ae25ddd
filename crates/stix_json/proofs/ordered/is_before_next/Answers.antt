use Rattle.std.proofs.Common.{◌≡◌, true, nat_lt, ◌+◌, ◌<◌, length}
use Rattle.flow_values.proofs.TestLemmas.{lt_from_test}
use Rattle.stix_json.proofs.FieldsLemmas.{before_next}
use Rattle.stix_json.proofs.ordered.is_before_next.Goals as goal

pub returns-in-Some : goal.returns-in-Some
returns-in-Some c = λ field found.
    let test : true ≡ nat_lt (c.args.at + 1) (length c.args.fields.now) = c.in-Some.ensures.lookup.0 in
    let beyond : c.args.at + 1 < length c.args.fields.now = lt_from_test (c.args.at + 1) (length c.args.fields.now) test in
    before_next c.args.fields.now c.args.at c.index-fields-at.result c.in-Some.next.now field c.as_str.result.now c.as_str-in-Some.result.now c.lt.result
    c.requires c.index-fields-at.is found beyond c.in-Some.ensures.lookup.1 c.as_str.ensures c.as_str-in-Some.ensures c.lt.ensures
