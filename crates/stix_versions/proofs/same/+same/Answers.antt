use Rattle.std.proofs.Common.{arith, ◌<◌, length, sym, ◌∙◌}
use Rattle.std.proofs.lemmas.Bool.{false≢true}
use Rattle.stix_json.specs.DataOf.{data_of, field_data}
use Rattle.stix_versions.proofs.SameLemmas.{same_item, same_rows, same_objects}
use Rattle.stix_versions.proofs.same.+same.Goals as goal

pub is_same-returns-in-Array-Array : goal.is_same-returns-in-Array-Array
is_same-returns-in-Array-Array t c =
    same_rows c.args.first.now c.args.second.now c.in-Array-Array.first c.in-Array-Array.second c.as_slice.result.now c.as_slice-in-Array-Array.result.now
    c.in-Array-Array.is-0 c.in-Array-Array.is-1 c.as_slice.ensures c.as_slice-in-Array-Array.ensures c.are_same_items.result c.are_same_items.ensures

pub is_same-returns-in-Object-Object : goal.is_same-returns-in-Object-Object
is_same-returns-in-Object-Object t c =
    same_objects c.args.first.now c.args.second.now c.in-Object-Object.first c.in-Object-Object.second c.as_slice-in-Object-Object.result.now
    c.as_slice-in-Object-Object-2.result.now c.in-Object-Object.is-0 c.in-Object-Object.is-1 c.as_slice-in-Object-Object.ensures
    c.as_slice-in-Object-Object-2.ensures c.are_same_fields.result c.are_same_fields.ensures

pub are_same_items-returns-then-not-is_same : goal.are_same_items-returns-then-not-is_same
are_same_items-returns-then-not-is_same t c =
    let inside : c.loop-at.at < length c.args.first.now = omega arith in
    let within : c.loop-at.at < length c.args.second.now = omega arith in (
      λ yes. absurd (false≢true yes),
      λ same. absurd (false≢true (sym c.if-not-is_same.true
          ∙ c.is_same.ensures.1 (same_item data_of c.args.first.now c.args.second.now c.loop-at.at c.index-first-at.result c.index-second-at.result inside within
          c.index-first-at.is c.index-second-at.is same))),
    )

pub are_same_fields-returns-then-not-is_same_field : goal.are_same_fields-returns-then-not-is_same_field
are_same_fields-returns-then-not-is_same_field t c =
    let inside : c.loop-at.at < length c.args.first.now = omega arith in
    let within : c.loop-at.at < length c.args.second.now = omega arith in (
      λ yes. absurd (false≢true yes),
      λ same. absurd (false≢true (sym c.if-not-is_same_field.true
          ∙ c.is_same_field.ensures.1 (same_item field_data c.args.first.now c.args.second.now c.loop-at.at c.index-first-at.result c.index-second-at.result inside within
          c.index-first-at.is c.index-second-at.is same))),
    )
