use Rattle.std.proofs.Common.{rules, ◌≡◌, suc, [], ◌∷◌, length, ap, ◌∙◌, arith}
use Rattle.json.specs.Token.{Token}
use Rattle.json.specs.Json.{members, value, parse_map}
use Rattle.json.specs.Reads.{token_of}
use Rattle.json.proofs.Grammar.{value_is, value-begin_object}
use Rattle.serde_json.specs.Data.{object, no_members}
use Rattle.serde_json.specs.Read.{of_json, of_members, converted}
use Rattle.stix_json.specs.declared.property_value.TheConstants.{LEFT}
use Rattle.stix_json.proofs.PropertyValueLemmas.{no_object, opens_members}
use Rattle.stix_json.proofs.TokensLemmas.{converted-object}
use Rattle.stix_json.proofs.CheckedLemmas.{read_error_under}
use Rattle.stix_json.proofs.property_value.take_object.Goals as goal

pub returns-in_default-clause-err : goal.returns-in_default-clause-err
returns-in_default-clause-err c =
    let empty : c.args.reader.now ≡ [] = grind arith in
    ap (converted of_json) (ap (value (suc (suc LEFT))) empty ∙ value_is (suc (suc LEFT)) [])

pub returns-in_err-take_properties-clause-err : goal.returns-in_err-take_properties-clause-err
returns-in_err-take_properties-clause-err c =
    let r = c.next.new.self in
    let first : c.args.reader.now ≡ token_of c.in-Some.token ∷ r = search rules in
    let begins = first ∙ ap (λ (t : Token). t ∷ r) (opens_members (token_of c.in-Some.token) c.if-opens_object.ensures) in
    let opened = ap (converted of_json) (ap (value (suc (suc LEFT))) begins ∙ value-begin_object (suc (suc LEFT)) r (omega arith)) ∙ converted-object (members (value (suc LEFT)) (length r) r) in
    let told = read_error_under c.take_properties.result object (converted (λ ms. of_members ms no_members) (members (value (suc LEFT)) (length r) r)) _ opened c.take_properties.ensures.err in
    search (rules, told)

pub returns-then-opens_object-clause-some : goal.returns-then-opens_object-clause-some
returns-then-opens_object-clause-some c =
    let r = c.next.new.self in
    let first : c.args.reader.now ≡ token_of c.in-Some.token ∷ r = search rules in
    let begins = first ∙ ap (λ (t : Token). t ∷ r) (opens_members (token_of c.in-Some.token) c.if-opens_object.ensures) in
    let opened = ap (converted of_json) (ap (value (suc (suc LEFT))) begins ∙ value-begin_object (suc (suc LEFT)) r (omega arith)) ∙ converted-object (members (value (suc LEFT)) (length r) r) in
    let found = c.in_ok-take_properties.ensures.ok in
    (found.0, opened ∙ ap (parse_map object) found.1, found.2)

pub returns-clause-none : goal.returns-clause-none
returns-clause-none c =
    let r = c.next.new.self in
    let first : c.args.reader.now ≡ token_of c.in-Some.token ∷ r = search rules in
    let found = c.in_ok-check_token.ensures.ok in (
      found.0,
      ap (λ ts. converted of_json (value (suc (suc LEFT)) ts)) first ∙ found.1,
      no_object (suc (suc LEFT)) (token_of c.in-Some.token) r c.check_token.new.reader found.0 c.if-opens_object.ensures found.1,
    )
