use Rattle.std.proofs.Common.{arith, ◌≡◌, ◌≤◌, ◌^◌, Option, Some, None, length, option_map, slice_get, sym, ap, ◌∙◌}
use denote.Ref.{Bor}
use Rattle.std.specs.Str.Parse.{digits_value}
use Rattle.stix_json.specs.declared.value.Json.{Json}
use Rattle.std.proofs.lemmas.Option.{slice_get_past}
use Rattle.stix_versions.proofs.DigitsLemmas.{parsed}
use Rattle.stix_versions.proofs.ItemsLemmas.{item_looked_up}
use Rattle.stix_versions.proofs.part.numbered.Goals as goal

pub returns-in_err-at-clause-value : goal.returns-in_err-at-clause-value
returns-in_err-at-clause-value c = λ numeral.
    let digits = c.args.digits.now in
    let large : 2 ^ 64 ≤ digits_value 10 digits = parsed digits numeral c.parse.result c.parse.ensures.value.0 None (sym c.in_err-at.was ∙ c.ok.ensures.value) in
    let short : length c.args.items.now ≤ 2 ^ 64 = omega (arith, c.well_formed) in
    let past : length c.args.items.now ≤ digits_value 10 digits = omega arith in
    ap (λ (found : Option (Bor Json)). option_map (λ item. item.now) found) c.from_residual.ensures ∙ sym (slice_get_past c.args.items.now (digits_value 10 digits) past)

pub returns-clause-value : goal.returns-clause-value
returns-clause-value c = λ numeral.
    let digits = c.args.digits.now in
    let lookup = c.get.ensures.lookup in
    let here : c.in_ok-at.at ≡ digits_value 10 digits = parsed digits numeral c.parse.result c.parse.ensures.value.0 (Some c.in_ok-at.at) (sym c.in_ok-at.was ∙ c.ok.ensures.value) in
    item_looked_up c.args.items.now c.in_ok-at.at c.get.result lookup.1 lookup.3
    ∙ ap (slice_get c.args.items.now) here
