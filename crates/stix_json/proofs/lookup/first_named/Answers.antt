use Rattle.std.proofs.Common.{sym, ◌∙◌}
use Rattle.stix_json.proofs.NamingLemmas.{found_field, passed_field}
use Rattle.stix_json.proofs.lookup.first_named.Goals as goal

pub returns-then-is_named : goal.returns-then-is_named
returns-then-is_named c =
    sym (c.loop-field.invariant ∙ found_field c.args.name.now c.args.fields.now c.loop-field.field-index c.field-item.result c.loop-field-test.true c.field-item.is
    (sym c.is_named.ensures ∙ c.if-is_named.true))

pub loop-field-preserved : goal.loop-field-preserved
loop-field-preserved c =
    c.loop-field.invariant ∙ passed_field c.args.name.now c.args.fields.now c.loop-field.field-index c.field-item.result c.loop-field-test.true c.field-item.is
    (sym c.is_named.ensures ∙ c.if-is_named.false)
