use Rattle.std.proofs.Common.{arith, ◌≡◌, ◌≤◌, length, List, All, IfSome, IfNone, sym, ap, subst, ◌∙◌}
use Rattle.std.proofs.lemmas.Bool.{false≢true}
use Rattle.std.proofs.lemmas.List.{length-map}
use Rattle.serde_json.specs.Data.{Data}
use Rattle.stix_json.specs.declared.value.Json.{Json}
use Rattle.stix_bundles.specs.Bundle.{IsObject}
use Rattle.stix_bundles.specs.declared.outline.TheConstants.{MAX_OBJECTS}
use Rattle.stix_bundles.specs.inner.Failures.{FailsInMembers}
use Rattle.stix_json.specs.DataOf.{data_of}
use Rattle.stix_bundles.specs.Objects.{data_in}
use Rattle.stix_bundles.proofs.OutlineLemmas.{row_is_list, list_is_row, fails_in_list, list_is_well}
use Rattle.stix_bundles.proofs.outline.failure_in_objects.Goals as goal

pub returns-then-not-is_count-clause-some : goal.returns-then-not-is_count-clause-some
returns-then-not-is_count-clause-some c = λ members list.
    let objects = c.in-Array.objects in
    let same = list_is_row c.args.value.now objects members c.in-Array.is list in
    let count : length members ≡ length objects = ap (λ (ds : List Data). length ds) same ∙ length-map objects data_of in
    absurd (false≢true (sym c.if-not-is_count.true ∙ c.is_count.ensures.1 (omega arith, omega arith)))

pub returns-clause-some : goal.returns-clause-some
returns-clause-some c =
    let objects = c.in-Array.objects in
    let count = c.is_count.ensures.0 c.if-not-is_count.false in
    let list = row_is_list c.args.value.now objects c.in-Array.is (subst (λ n. 1 ≤ n) c.len.ensures count.0) (subst (λ n. n ≤ MAX_OBJECTS) c.len.ensures count.1) in
    fails_in_list (data_of c.args.value.now) (data_in objects) list c.first_no_object.result
    (subst (λ (values : List Json). IfSome c.first_no_object.result (FailsInMembers (data_in values))) c.as_slice.ensures c.first_no_object.ensures.some)

pub returns-clause-none : goal.returns-clause-none
returns-clause-none c =
    let objects = c.in-Array.objects in
    let count = c.is_count.ensures.0 c.if-not-is_count.false in
    let list = row_is_list c.args.value.now objects c.in-Array.is (subst (λ n. 1 ≤ n) c.len.ensures count.0) (subst (λ n. n ≤ MAX_OBJECTS) c.len.ensures count.1) in
    list_is_well (data_of c.args.value.now) (data_in objects) list c.first_no_object.result
    (subst (λ (values : List Json). IfNone c.first_no_object.result (All IsObject (data_in values))) c.as_slice.ensures c.first_no_object.ensures.none)
