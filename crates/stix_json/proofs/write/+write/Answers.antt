use Rattle.std.proofs.Common.{rules, ◌≡◌, ◌∷◌, [], ◌++◌, arith, ◌∙◌}
use Rattle.std.proofs.lemmas.Result.{on_ok_weaker}
use Rattle.json.specs.Token.{key}
use Rattle.stix_json.proofs.WriteLemmas.{items_step, items_done, fields_step, fields_done}
use Rattle.stix_json.proofs.write.+write.Goals as goal

pub write_items-loop-item-preserved : goal.write_items-loop-item-preserved
write_items-loop-item-preserved t c =
    let inv = c.loop-item.invariant in (
      c.write_value.ensures.before ∙ inv.0,
      items_step c.args.items.now c.loop-item.item-index c.item-item.result c.args.out.now.tokens c.loop-item.out.tokens c.write_value.new.out.tokens (omega arith) c.item-item.is inv.1 c.in_ok-write_value.ensures.ok,
    )

pub write_items-returns-clause-ok : goal.write_items-returns-clause-ok
write_items-returns-clause-ok t c =
    on_ok_weaker c.end_array.result (λ e. items_done c.args.items.now c.loop-item.item-index c.args.out.now.tokens c.loop-item.out.tokens c.end_array.new.self.tokens (omega arith) c.loop-item.invariant.1 e) c.end_array.ensures.ok

pub write_fields-loop-field-preserved : goal.write_fields-loop-field-preserved
write_fields-loop-field-preserved t c =
    let inv = c.loop-field.invariant in
    let named : c.key.new.self.tokens ≡ c.loop-field.out.tokens ++ key c.field-item.result.name ∷ [] = search rules in (
      c.write_value.ensures.before ∙ search rules,
      fields_step c.args.fields.now c.loop-field.field-index c.field-item.result c.args.out.now.tokens c.loop-field.out.tokens c.key.new.self.tokens c.write_value.new.out.tokens (omega arith) c.field-item.is inv.1 named c.in_ok-write_value.ensures.ok,
    )

pub write_fields-returns-clause-ok : goal.write_fields-returns-clause-ok
write_fields-returns-clause-ok t c =
    on_ok_weaker c.end_object.result (λ e. fields_done c.args.fields.now c.loop-field.field-index c.args.out.now.tokens c.loop-field.out.tokens c.end_object.new.self.tokens (omega arith) c.loop-field.invariant.1 e) c.end_object.ensures.ok
