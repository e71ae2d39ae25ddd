use Rattle.std.proofs.Common.{ℕ, List, Bor, map}
use Rattle.serde_json.specs.Find.{as_str}
use Rattle.stix_json.specs.declared.value.Field.{Field}
use Rattle.stix_json.specs.DataOf.{data_of, field_data, members_of}
use Rattle.stix_objects.specs.Singles.{AreTexts}
use Rattle.stix_objects.proofs.ListLemmas.{open_item, close_item, there_of, absent_of, none_is_there}
use Rattle.stix_objects.proofs.single.are_texts.Goals as goal

abbrev Texts : List Field → Type 0
Texts fields = AreTexts (members_of (map field_data fields))

pub returns-then-is_none : goal.returns-then-is_none
returns-then-is_none c =
    let first = open_item Texts c.args.fields.now c.loop-field.field-index c.field-item.result c.loop-field-test.true c.field-item.is in
    let text = as_str (data_of c.field-item.result.value) in
    let none = absent_of (λ (text : Bor (List ℕ)). text.now) c.text_of.result text c.text_of.ensures c.if-is_none.ensures in
    (λ f. absurd (cc), λ all. absurd (none_is_there text none (first (c.loop-field.invariant.0 all)).0))

pub loop-field-preserved : goal.loop-field-preserved
loop-field-preserved c =
    let first = open_item Texts c.args.fields.now c.loop-field.field-index c.field-item.result c.loop-field-test.true c.field-item.is in
    let closed = close_item Texts c.args.fields.now c.loop-field.field-index c.field-item.result c.loop-field-test.true c.field-item.is in
    let there = there_of (λ (text : Bor (List ℕ)). text.now) c.text_of.result (as_str (data_of c.field-item.result.value)) c.text_of.ensures c.if-is_none.ensures in
    (λ all. (first (c.loop-field.invariant.0 all)).1, λ rest. c.loop-field.invariant.1 (closed (there, rest)))
