use Rattle.std.proofs.Common.{◌≡◌, List, option_map, slice_get, subst}
use Rattle.std.specs.Str.Parse.{digits_value}
use Rattle.stix_json.specs.declared.value.Json.{Json}
use Rattle.stix_versions.proofs.ItemsLemmas.{item_read, items_ordered}
use Rattle.stix_versions.proofs.part.item_at.Goals as goal

pub returns-in-Array-clause-value : goal.returns-in-Array-clause-value
returns-in-Array-clause-value c = λ numeral.
    let at = digits_value 10 c.args.digits.now in
    item_read c.args.value.now c.in-Array.items c.in-Array.is at c.numbered.result
    (subst (λ (items : List Json). option_map (λ item. item.now) c.numbered.result ≡ slice_get items at) c.as_slice.ensures (c.numbered.ensures.value numeral))

pub numbered-requires : goal.numbered-requires
numbered-requires c = items_ordered c.ordered_parts.ensures.items c.args.value.now c.in-Array.items c.as_slice.result.now c.in-Array.is c.as_slice.ensures c.requires
