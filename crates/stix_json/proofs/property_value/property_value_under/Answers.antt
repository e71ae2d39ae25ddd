use Rattle.std.proofs.Common.{◌≡◌, List, ℕ, bytes_eq, option_map, sym, ap, ◌∙◌, Bor}
use Rattle.stix_json.specs.declared.property_value.PropertyValue.{PropertyValue}
use Rattle.stix_json.proofs.PropertiesLemmas.{property_value_found, property_value_passed}
use Rattle.stix_json.proofs.property_value.property_value_under.Goals as goal
use Rattle.stix_json.proofs.property_value.property_value_under.Goals.{then-eq, else-eq}

pub loop-property-preserved : goal.loop-property-preserved
loop-property-preserved c =
    let name = c.args.name.now in
    let property = c.property-item.result in
    let test : bytes_eq property.name name ≡ c.eq.result = ap (λ (own : List ℕ). bytes_eq own name) (sym c.as_str.ensures) ∙ sym c.eq.ensures in
    elim c.if-eq.branch [
      | then-eq w ↦
          ap (option_map (λ (property_value : Bor PropertyValue). property_value.now)) w.found-is
          ∙ sym (property_value_found name c.args.properties.now c.loop-property.property-index property c.loop-property-test.true c.property-item.is (test ∙ w.if-eq.true))
      | else-eq w ↦
          ap (option_map (λ (property_value : Bor PropertyValue). property_value.now)) w.found-is
          ∙ c.loop-property.invariant
          ∙ sym (property_value_passed name c.args.properties.now c.loop-property.property-index property c.loop-property-test.true c.property-item.is (test ∙ w.if-eq.false))
    ]
