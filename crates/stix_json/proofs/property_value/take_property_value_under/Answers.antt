use Rattle.std.proofs.Common.{◌≡◌, List, ℕ, true, false, bytes_eq, option_map, sym, ap, ◌∙◌}
use Rattle.stix_json.proofs.PropertiesLemmas.{property_value_pushed, last_passed}
use Rattle.stix_json.specs.inner.PropertyValue.{property_name}
use Rattle.stix_json.specs.inner.Insertion.{last_named}
use Rattle.stix_json.specs.declared.property_value.Property.{Property}
use Rattle.stix_json.proofs.property_value.take_property_value_under.Goals as goal

pub returns-then-eq : goal.returns-then-eq
returns-then-eq c =
    let name = c.args.name.now in
    let test : bytes_eq c.in-Some.property.name name ≡ true = ap (λ (own : List ℕ). bytes_eq own name) (sym c.as_str.ensures) ∙ sym c.eq.ensures ∙ c.if-eq.true in
    sym (
    ap (option_map (λ (property : Property). property.property_value)) (c.loop-property.invariant ∙ ap (last_named property_name name) c.in-Some.ensures.items)
    ∙ property_value_pushed name c.pop.new.self.items c.in-Some.property test
    )

pub loop-property-preserved : goal.loop-property-preserved
loop-property-preserved c =
    let name = c.args.name.now in
    let test : bytes_eq c.in-Some.property.name name ≡ false = ap (λ (own : List ℕ). bytes_eq own name) (sym c.as_str.ensures) ∙ sym c.eq.ensures ∙ c.if-eq.false in
    c.loop-property.invariant ∙ ap (last_named property_name name) c.in-Some.ensures.items ∙ last_passed name c.pop.new.self.items c.in-Some.property test
