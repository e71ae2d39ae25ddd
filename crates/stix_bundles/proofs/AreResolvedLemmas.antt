-- The places that the texts of a list mean, one text more.
use Rattle.std.proofs.Common.{◌≡◌, ◌+◌, ◌<◌, ℕ, List, [], ◌∷◌, ◌++◌, take, filter_map, get_or, length, Option, Some, None, MatchOption, option_to_list, append-nil, append_assoc, sym, ap, refl, subst, ◌∙◌}
use Rattle.std.proofs.lemmas.List.{take_more, map-append}
use Rattle.std.proofs.lemmas.List.Elements.{filter_map-append}
use Rattle.std.specs.List.{cons_option}
use Rattle.serde_json.specs.Data.{Data}
use Rattle.serde_json.specs.Find.{as_str}
use Rattle.stix_json.specs.declared.value.Json.{Json}
use Rattle.stix_json.specs.DataOf.{data_of}
use Rattle.stix_bundles.specs.Objects.{data_in}
use Rattle.stix_bundles.specs.Lookup.{ResolvesTo}
use Rattle.stix_bundles.specs.Observations.{AreResolved}

resolved_more : (objects : List Data) (texts : List (List ℕ)) (text : List ℕ) (places : List ℕ) (place : Option ℕ) → AreResolved objects texts places
    → ResolvesTo objects text place → AreResolved objects (texts ++ text ∷ []) (places ++ option_to_list place)
resolved_more objects [] text places place are is =
    (place, [], is, refl, ap (λ (ps : List ℕ). ps ++ option_to_list place) are ∙ sym (append-nil (option_to_list place)))
resolved_more objects (other ∷ texts) text places place are is = (
  are.0,
  are.1 ++ option_to_list place,
  are.2,
  resolved_more objects texts text are.1 place are.3 is,
  ap (λ (ps : List ℕ). ps ++ option_to_list place) are.4 ∙ append_assoc (option_to_list are.0) are.1 (option_to_list place),
)

resolved_item : (objects : List Data) (texts : List (List ℕ)) (item : Option (List ℕ)) (places : List ℕ) (place : Option ℕ) → AreResolved objects texts places
    → MatchOption item (place ≡ None) (λ text. ResolvesTo objects text place) → AreResolved objects (texts ++ cons_option item []) (places ++ option_to_list place)
resolved_item objects texts None places place are none =
    subst (λ (ps : List ℕ). AreResolved objects (texts ++ []) ps) (sym (ap (λ (o : Option ℕ). places ++ option_to_list o) none ∙ append-nil places))
    (subst (λ (ts : List (List ℕ)). AreResolved objects ts places) (sym (append-nil texts)) are)
resolved_item objects texts (Some text) places place are is = resolved_more objects texts text places place are is

-- the texts of the first items
abbrev pub texts_of : List Json → ℕ → List (List ℕ)
texts_of items k = filter_map as_str (data_in (take k items))

-- the same in a loop over items
pub resolved_step : (objects : List Data) (items : List Json) (k : ℕ) (item : Json) (places : List ℕ) (place : Option ℕ) → k < length items → get_or items k item ≡ item
    → AreResolved objects (texts_of items k) places → MatchOption (as_str (data_of item)) (place ≡ None) (λ text. ResolvesTo objects text place)
    → AreResolved objects (texts_of items (k + 1)) (places ++ option_to_list place)
resolved_step objects items k item places place inside read are is =
    let grown : take (k + 1) items ≡ take k items ++ item ∷ [] = take_more items k item inside ∙ ap (λ (x : Json). take k items ++ x ∷ []) read in
    let mapped : data_in (take (k + 1) items) ≡ data_in (take k items) ++ data_of item ∷ [] =
    ap (λ (values : List Json). data_in values) grown ∙ map-append data_of (take k items) (item ∷ []) in
    let texts : texts_of items (k + 1) ≡ texts_of items k ++ cons_option (as_str (data_of item)) [] =
    ap (filter_map as_str) mapped ∙ filter_map-append as_str (data_in (take k items)) (data_of item ∷ []) in
    subst (λ (ts : List (List ℕ)). AreResolved objects ts (places ++ option_to_list place)) (sym texts)
    (resolved_item objects (texts_of items k) (as_str (data_of item)) places place are is)
