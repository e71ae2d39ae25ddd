-- The items of lists.
use Rattle.std.proofs.Common.{rules, ◌≡◌, ℕ, ◌<◌, ◌≤◌, zero, suc, length, get_or, IfSome, MatchOption, List, [], ◌∷◌, Option, Some, None, option_map, slice_get, All, refl, sym, ap, subst, ◌∙◌}
use Rattle.std.specs.List.{HoldsAt}
use Rattle.std.proofs.lemmas.Option.{slice_get-map, slice_get_past, slice_get_read}
use Rattle.std.proofs.lemmas.List.{get_or-map, length-map}
use denote.Ref.{Bor}
use Rattle.serde_json.specs.Data.{Data, array}
use Rattle.serde_json.specs.Find.{at as at_place, get_item}
use Rattle.serde_json.specs.View.{items_of}
use Rattle.stix_json.specs.declared.value.Json.{Json, the_lemmas}
use Rattle.stix_json.specs.declared.value.Json.TheVariants as json
use Rattle.stix_json.specs.DataOf.{data_of}
use Rattle.stix_json.specs.Ordered.{IsOrdered, ItemsAreOrdered}
use Rattle.stix_bundles.specs.Bundle.{items_in_order}
use Rattle.stix_bundles.specs.Objects.{data_in}

pub listed_items : (ds : List Data) → items_in_order (items_of ds) ≡ ds
listed_items [] = refl
listed_items (d ∷ ds) = ap (λ (rest : List Data). d ∷ rest) (listed_items ds)

pub data_of-Array : (items : List Json) → data_of (json.Array items) ≡ array (items_of (data_in items))
data_of-Array items = search (rules, the_lemmas)

item_of_list : (ds : List Data) (n : ℕ) → get_item n (items_of ds) ≡ slice_get ds n
item_of_list [] n = refl
item_of_list (d ∷ ds) zero = refl
item_of_list (d ∷ ds) (suc n) = item_of_list ds n

data_within : (found : Option (Bor Json)) → option_map (λ item. data_of item.now) found ≡ option_map data_of (option_map (λ item. item.now) found)
data_within None = refl
data_within (Some item) = refl

pub item_read : (value : Json) (items : List Json) → value ≡ json.Array items → (n : ℕ) (found : Option (Bor Json))
    → option_map (λ item. item.now) found ≡ slice_get items n → option_map (λ item. data_of item.now) found ≡ at_place n (data_of value)
item_read value items row n found is =
    data_within found ∙ ap (λ (o : Option Json). option_map data_of o) is ∙ sym (slice_get-map data_of items n) ∙ sym (item_of_list (data_in items) n)
    ∙ sym (ap (at_place n) (data_of-Array items)) ∙ sym (ap (λ (value : Json). at_place n (data_of value)) row)

pub item_looked_up : (items : List Json) (at : ℕ) (found : Option (Bor Json)) → IfSome found (λ item. item.now ≡ get_or items at item.now)
    → MatchOption found (length items ≤ at) (λ item. (at < length items) × HoldsAt (λ t. item.now ≡ t) items at) → option_map (λ item. item.now) found ≡ slice_get items at
item_looked_up items at None read within = sym (slice_get_past items at within)
item_looked_up items at (Some item) read within = sym (slice_get_read items (length items) at item.now refl within.0 read)

-- the data of values are ordered where the values are
pub ordered_each : (items : List Json) → All IsOrdered (data_in items) → All (λ item. IsOrdered (data_of item)) items
ordered_each items all k d within =
    subst IsOrdered (get_or-map data_of items k d (data_of d) within) (all k (data_of d) (subst (λ (n : ℕ). k < n) (sym (length-map items data_of)) within))

-- the items of an ordered value are ordered
pub items_ordered : ((items : List Data) → ItemsAreOrdered (items_of items) → All IsOrdered items) → (value : Json) (items read : List Json) → value ≡ json.Array items
    → read ≡ items → IsOrdered (data_of value) → All (λ item. IsOrdered (data_of item)) read
items_ordered each value items read is read_is ordered =
    let whole : ItemsAreOrdered (items_of (data_in items)) = subst IsOrdered (ap data_of is ∙ data_of-Array items) ordered in
    subst (λ (xs : List Json). All (λ item. IsOrdered (data_of item)) xs) (sym read_is) (ordered_each items (each (data_in items) whole))
