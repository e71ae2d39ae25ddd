use Rattle.std.proofs.Common.{◌≡◌, ◌↔◌, IsTrue, length, map, List, refl, sym, ap, subst, ◌∙◌}
use Rattle.std.proofs.lemmas.Bool.{false≢true}
use Rattle.std.proofs.lemmas.Option.{slice_get_read}
use Rattle.serde_json.specs.Data.{Data}
use Rattle.stix_json.specs.declared.value.Field.{Field}
use Rattle.stix_json.specs.DataOf.{data_of, field_data, members_of}
use Rattle.stix_json.specs.Ordered.{IsOrdered, MembersAreOrdered}
use Rattle.stix_json.proofs.ValueErrorsLemmas.{data_of-Object}
use Rattle.stix_json.proofs.FieldsLemmas.{open_ordered, close_ordered}
use Rattle.stix_json.proofs.ordered.+ordered.Goals as goal
use Rattle.stix_json.proofs.ordered.+ordered.Goals.{are_ordered_fields-then-not-is_before_next-via-then-not-is_before_next, are_ordered_fields-then-not-is_before_next-via-else-not-is_before_next+then-not-is_ordered}

pub are_ordered_fields-returns-then-not-is_before_next : goal.are_ordered_fields-returns-then-not-is_before_next
are_ordered_fields-returns-then-not-is_before_next t c =
    let fields = c.args.fields.now in
    let at = c.loop-at.at in
    let field = c.index-fields-at.result in
    let opened = open_ordered fields at field c.loop-at-test.true c.index-fields-at.is in
    let there = slice_get_read fields (length fields) at field refl c.loop-at-test.true c.index-fields-at.is in (
      λ yes. absurd (false≢true yes),
      λ all.
          let first = opened (c.loop-at.invariant.0 all) in
          elim c.then-not-is_before_next.branch [
            | are_ordered_fields-then-not-is_before_next-via-then-not-is_before_next w ↦
                absurd (false≢true (sym w.if-not-is_before_next.true ∙ (c.is_before_next.ensures field there).1 first.0))
            | are_ordered_fields-then-not-is_before_next-via-else-not-is_before_next+then-not-is_ordered w ↦
                absurd (false≢true (sym w.if-not-is_ordered.true ∙ w.is_ordered.ensures.1 first.1))
          ],
    )

pub are_ordered_fields-loop-at-preserved : goal.are_ordered_fields-loop-at-preserved
are_ordered_fields-loop-at-preserved t c =
    let fields = c.args.fields.now in
    let at = c.loop-at.at in
    let field = c.index-fields-at.result in
    let there = slice_get_read fields (length fields) at field refl c.loop-at-test.true c.index-fields-at.is in
    let before = (c.is_before_next.ensures field there).0 c.if-not-is_before_next.false in
    let value = c.is_ordered.ensures.0 c.if-not-is_ordered.false in (
      λ all. (open_ordered fields at field c.loop-at-test.true c.index-fields-at.is (c.loop-at.invariant.0 all)).2,
      λ rest. c.loop-at.invariant.1 (close_ordered fields at field c.loop-at-test.true c.index-fields-at.is (before, value, rest)),
    )

pub is_ordered-returns-in-Object : goal.is_ordered-returns-in-Object
is_ordered-returns-in-Object t c =
    let answer = c.are_ordered_fields.result in
    let fields = c.in-Object.fields in
    let value : data_of c.args.value.now ≡ _ = ap data_of c.in-Object.is ∙ data_of-Object fields in
    let own = subst (λ (fs : List Field). IsTrue answer ↔ MembersAreOrdered (members_of (map field_data fs))) c.as_slice-in-Object.ensures c.are_ordered_fields.ensures in
    subst (λ (d : Data). IsTrue answer ↔ IsOrdered d) (sym value) own
