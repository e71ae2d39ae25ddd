use Rattle.std.proofs.Common.{rules, ◌≡◌, ◌-◌, suc, length, None, Some, refl, sym, subst, ◌∙◌, arith}
use Rattle.json.specs.Json.{read_key, value}
use Rattle.json.proofs.Grammar.{read_key-shorter}
use Rattle.serde_json.specs.Data.{put, no_members}
use Rattle.serde_json.specs.Read.{of_json, converted}
use Rattle.stix_json.specs.declared.property_value.Property.{Property}
use Rattle.stix_json.specs.declared.property_value.TheConstants.{LEFT}
use Rattle.stix_json.specs.inner.PropertyValue.{HoldsProperties}
use Rattle.stix_json.proofs.PropertyValueLemmas.{holds_none, holds_insert}
use Rattle.stix_json.proofs.TokensLemmas.{member_read, member_refused, key_refused, members_over}
use Rattle.stix_json.proofs.CheckedLemmas.{read_error_since, read_error_at}
use Rattle.stix_json.proofs.property_value.take_properties.Goals as goal

pub members-init : goal.members-init
members-init c =
    (length c.args.reader.now, omega arith, no_members, refl, subst (HoldsProperties no_members) (sym c.new-properties.ensures.items) holds_none, omega arith)

pub returns-in_err-name-clause-err : goal.returns-in_err-name-clause-err
returns-in_err-name-clause-err c =
    let l = c.members in
    read_error_at c.from_residual.result _ (l.invariant.3 ∙ key_refused (value (suc LEFT)) l.invariant.2 l.invariant.0 l.reader c.in_err-name.ensures.value)

pub returns-in_err-property_value-clause-err : goal.returns-in_err-property_value-clause-err
returns-in_err-property_value-clause-err c =
    let p = value (suc LEFT) in
    let l = c.members in
    let n = l.invariant.0 in
    let old = l.invariant.2 in
    let k = c.in-Some.name.now in
    let s = c.next_key.new.self in
    let named : read_key l.reader ≡ Some (Some k, s) = search rules in
    let told = read_error_since c.take_property_value.result (converted of_json (p s)) _ (λ none. l.invariant.3 ∙ member_refused p old n k l.reader s named none) c.take_property_value.ensures.err in
    search (rules, told)

pub members-preserved : goal.members-preserved
members-preserved c =
    let p = value (suc LEFT) in
    let l = c.members in
    let n = l.invariant.0 in
    let old = l.invariant.2 in
    let k = c.in-Some.name.now in
    let s = c.next_key.new.self in
    let named : read_key l.reader ≡ Some (Some k, s) = search rules in
    let found = c.in_ok-property_value.ensures.ok in
    let d = found.0 in
    let r = c.take_property_value.new.reader in
    let less = read_key-shorter l.reader (Some k) s named in
    let lesser = c.in_ok-property_value.ensures.shorter in
    let one : Property = record { name = c.in_ok-name-2.name; property_value = c.in_ok-property_value.property_value } in
    let turn = member_read p old n k l.reader s r d (omega (arith, less, l.invariant.1)) named found.1 in (
      n - 1,
      omega (arith, l.invariant.1, less, lesser),
      put k d old,
      l.invariant.3 ∙ turn,
      subst (HoldsProperties (put k d old)) (sym c.in_ok-push_property.ensures) (holds_insert k d old l.properties.items one l.invariant.4 c.in_ok-name-2.ensures found.2),
      omega (arith, l.invariant.5, less, lesser),
    )

pub returns-clause-ok : goal.returns-clause-ok
returns-clause-ok c =
    let p = value (suc LEFT) in
    let l = c.members in
    let n = l.invariant.0 in
    let r = c.next_key.new.self in
    let over : read_key l.reader ≡ Some (None, r) = search rules in
    (l.invariant.2, l.invariant.3 ∙ members_over p l.invariant.2 n l.reader r l.invariant.1 over, l.invariant.4)
