-- The texts of `selectors`, and the JSON values that they are.
use Rattle.std.proofs.Common.{◌≡◌, ◌≢◌, ℕ, List, [], ◌∷◌, length, map, All, Any, slice_get, Option, Some, None, option_map, option_and_then, codes, refl, sym, ap, ◌∙◌}
use Rattle.std.proofs.lemmas.Option.{slice_get-map, slice_get-get_or, slice_get_read, slice_get_within, get_or_from_slice_get, same_Some}
use Rattle.std.proofs.lemmas.List.Elements.{All-nil, All-cons, All-head, All-tail}
use Rattle.serde_json.specs.Data.{Data, Items, string}
use Rattle.serde_json.specs.Find.{get, as_array, as_str}
use Rattle.serde_json.specs.View.{items_of}
use Rattle.stix_json.specs.declared.value.Json.{Json}
use Rattle.stix_json.specs.DataOf.{data_of}
use Rattle.stix_bundles.specs.Bundle.{items_in_order}
use Rattle.stix_bundles.specs.Objects.{data_in}
use Rattle.stix_versions.specs.Markings.{ListsSelectors, AreSelectors, MissesOne}
use Rattle.stix_versions.specs.inner.Selectors.{IsSelectorText, Misses, IsListAt}
use Rattle.stix_versions.proofs.ItemsLemmas.{listed_items}

same_text : (first second : List ℕ) → string first ≡ string second → first ≡ second
same_text first second is = same_Some first second (ap as_str is)

list_value : (o : Option Data) (items : Items) → option_and_then as_array o ≡ Some items → (value : Data) × (o ≡ Some value) × (as_array value ≡ Some items)
list_value None items is = absurd cc
list_value (Some value) items is = (value, refl, is)

-- the texts are the only ones
pub texts_are : (marking : Data) (ds : List Data) → IsListAt (codes "selectors") marking ds → (texts : List (List ℕ)) → ListsSelectors marking texts → ds ≡ map string texts
texts_are marking ds is texts lists =
    let there : Some (items_of ds) ≡ Some lists.items = sym is ∙ ap (option_and_then as_array) lists.there ∙ lists.list in
    sym (listed_items ds) ∙ ap items_in_order (same_Some (items_of ds) lists.items there) ∙ lists.texts_are

pub lists_them : (marking : Data) (ds : List Data) → IsListAt (codes "selectors") marking ds → (texts : List (List ℕ)) → ds ≡ map string texts → texts ≢ [] → ListsSelectors marking texts
lists_them marking ds is texts same some =
    let found = list_value (get (codes "selectors") marking) (items_of ds) is in
    record { value = found.0; items = items_of ds; there = found.1; list = found.2; texts_are = listed_items ds ∙ same; some = some }

abbrev pub AllSelectorTexts : List Json → Type 0
AllSelectorTexts values = All (λ (value : Json). IsSelectorText (data_of value)) values

pub texts_of_all : (values : List Json) → AllSelectorTexts values → (texts : List (List ℕ)) × (data_in values ≡ map string texts) × AreSelectors texts
texts_of_all [] all = ([], refl, tt)
texts_of_all (value ∷ values) all =
    let first = All-head (λ (json : Json). IsSelectorText (data_of json)) value values all in
    let rest = texts_of_all values (All-tail (λ (json : Json). IsSelectorText (data_of json)) value values all) in (
      first.text ∷ rest.0,
      ap (λ (d : Data). d ∷ data_in values) first.is_text ∙ ap (λ (ds : List Data). string first.text ∷ ds) rest.1,
      ((first.parts, first.selector), rest.2),
    )

pub all_of_texts : (values : List Json) (texts : List (List ℕ)) → data_in values ≡ map string texts → AreSelectors texts → AllSelectorTexts values
all_of_texts [] texts same are = All-nil (λ (json : Json). IsSelectorText (data_of json))
all_of_texts (value ∷ values) [] same are = absurd cc
all_of_texts (value ∷ values) (text ∷ texts) same are =
    let first : data_of value ≡ string text = cc in
    let rest : data_in values ≡ map string texts = cc in
    All-cons (λ (json : Json). IsSelectorText (data_of json)) value values (record { text = text; parts = are.0.0; is_text = first; selector = are.0.1 })
    (all_of_texts values texts rest are.1)

text_of_some : (o : Option (List ℕ)) (text : List ℕ) → option_map string o ≡ Some (string text) → o ≡ Some text
text_of_some None text is = absurd cc
text_of_some (Some other) text is = ap Some (same_text other text (same_Some (string other) (string text) is))

value_of_some : (o : Option Json) (d : Data) → option_map data_of o ≡ Some d → (value : Json) × (o ≡ Some value) × (data_of value ≡ d)
value_of_some None d is = absurd cc
value_of_some (Some value) d is = (value, refl, same_Some (data_of value) d is)

pub misses_of_any : (d marking : Data) (values : List Json) (texts : List (List ℕ)) → ListsSelectors marking texts → data_in values ≡ map string texts
    → Any (λ (value : Json). Misses d (data_of value)) values → MissesOne d marking
misses_of_any d marking values texts lists same any =
    let k = any.0 in
    let value = any.1 in
    let missed = any.4 in
    let there : slice_get values k ≡ Some value = slice_get_read values (length values) k value refl any.2 (sym any.3) in
    let mapped : slice_get (map string texts) k ≡ Some (string missed.text) =
    ap (λ (ds : List Data). slice_get ds k) (sym same) ∙ slice_get-map data_of values k ∙ ap (λ (o : Option Json). option_map data_of o) there ∙ ap Some missed.is_text in
    let text : slice_get texts k ≡ Some missed.text = text_of_some (slice_get texts k) missed.text (sym (slice_get-map string texts k) ∙ mapped) in
    record {
      texts = texts;
      lists = lists;
      text = missed.text;
      one = (k, slice_get_within texts k missed.text text, get_or_from_slice_get texts k missed.text missed.text text);
      parts = missed.parts;
      selector = missed.selector;
      missing = missed.missing;
    }

pub any_of_misses : (d marking : Data) (values : List Json) → IsListAt (codes "selectors") marking (data_in values) → MissesOne d marking
    → Any (λ (value : Json). Misses d (data_of value)) values
any_of_misses d marking values is one =
    let k = one.one.0 in
    let same = texts_are marking (data_in values) is one.texts one.lists in
    let text : slice_get one.texts k ≡ Some one.text = slice_get-get_or one.texts k one.text one.one.1 ∙ ap Some one.one.2 in
    let mapped : slice_get (data_in values) k ≡ Some (string one.text) =
    ap (λ (ds : List Data). slice_get ds k) same ∙ slice_get-map string one.texts k ∙ ap (option_map string) text in
    let found = value_of_some (slice_get values k) (string one.text) (sym (slice_get-map data_of values k) ∙ mapped) in (
      k,
      found.0,
      slice_get_within values k found.0 found.1,
      get_or_from_slice_get values k found.0 found.0 found.1,
      record { text = one.text; parts = one.parts; is_text = found.2; selector = one.selector; missing = one.missing },
    )
