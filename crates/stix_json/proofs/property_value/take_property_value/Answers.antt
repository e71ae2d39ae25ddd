use Rattle.std.proofs.Common.{rules, ◌≡◌, suc, [], ◌∷◌, length, refl, ap, ◌∙◌, arith}
use Rattle.json.specs.Token.{Token}
use Rattle.json.specs.Json.{items, value, parse_map}
use Rattle.json.specs.Reads.{token_of}
use Rattle.json.proofs.Grammar.{value_is, value-begin_array}
use Rattle.serde_json.specs.Data.{array}
use Rattle.serde_json.specs.Read.{of_json, of_items, converted}
use Rattle.stix_json.specs.declared.property_value.TheConstants.{LEFT}
use Rattle.stix_json.proofs.PropertyValueLemmas.{no_list, opens_array}
use Rattle.stix_json.proofs.TokensLemmas.{converted-array}
use Rattle.stix_json.proofs.CheckedLemmas.{read_error_under}
use Rattle.stix_json.proofs.property_value.take_property_value.Goals as goal

pub returns-in_default-clause-err : goal.returns-in_default-clause-err
returns-in_default-clause-err c =
    let empty : c.args.reader.now ≡ [] = grind arith in
    ap (converted of_json) (ap (value (suc LEFT)) empty ∙ value_is (suc LEFT) [])

pub returns-in_err-take_entries-clause-err : goal.returns-in_err-take_entries-clause-err
returns-in_err-take_entries-clause-err c =
    let r = c.next.new.self in
    let first : c.args.reader.now ≡ token_of c.in-Some.token ∷ r = search rules in
    let begins = first ∙ ap (λ (t : Token). t ∷ r) (opens_array (token_of c.in-Some.token) c.if-opens_list.ensures) in
    let opened = ap (converted of_json) (ap (value (suc LEFT)) begins ∙ value-begin_array (suc LEFT) r (omega arith)) ∙ converted-array (items (value LEFT) (length r) r) in
    let told = read_error_under c.take_entries.result array (converted of_items (items (value LEFT) (length r) r)) _ opened c.take_entries.ensures.err in
    search (rules, told)

pub returns-then-opens_list-clause-ok : goal.returns-then-opens_list-clause-ok
returns-then-opens_list-clause-ok c =
    let r = c.next.new.self in
    let first : c.args.reader.now ≡ token_of c.in-Some.token ∷ r = search rules in
    let begins = first ∙ ap (λ (t : Token). t ∷ r) (opens_array (token_of c.in-Some.token) c.if-opens_list.ensures) in
    let opened = ap (converted of_json) (ap (value (suc LEFT)) begins ∙ value-begin_array (suc LEFT) r (omega arith)) ∙ converted-array (items (value LEFT) (length r) r) in
    let found = c.in_ok-take_entries.ensures.ok in
    (array found.0, opened ∙ ap (parse_map array) found.1, (found.0, refl, found.2))

pub returns-clause-ok : goal.returns-clause-ok
returns-clause-ok c =
    let r = c.next.new.self in
    let first : c.args.reader.now ≡ token_of c.in-Some.token ∷ r = search rules in
    let found = c.in_ok-checked.ensures.ok in (
      found.0,
      ap (λ ts. converted of_json (value (suc LEFT) ts)) first ∙ found.1,
      (no_list (suc LEFT) (token_of c.in-Some.token) r c.check_token.new.reader found.0 c.if-opens_list.ensures found.1, found.2),
    )
