-- The outline of a bundle, as the values in it tell it.
use Rattle.std.proofs.Common.{rules, ◌≡◌, ◌≤◌, List, [], ◌∷◌, length, All, Some, None, IfSome, IfNone, Option, refl, sym, ap, subst, unwrap_or, ◌∙◌}
use Rattle.std.proofs.lemmas.List.{length-map}
use Rattle.serde_json.specs.Data.{Data, array, Items}
use Rattle.serde_json.specs.Find.{as_array}
use Rattle.serde_json.specs.View.{items_of}
use Rattle.stix_json.specs.declared.value.Json.{Json, the_lemmas}
use Rattle.stix_json.specs.declared.value.Json.TheVariants as json
use Rattle.stix_json.specs.DataOf.{data_of}
use Rattle.stix_bundles.specs.Objects.{data_in}
use Rattle.stix_bundles.specs.Bundle.{items_in_order, IsObject, IsListOf}
use Rattle.stix_bundles.specs.declared.outline.Failure.{Failure}
use Rattle.stix_bundles.specs.declared.outline.TheConstants.{MAX_OBJECTS}
use Rattle.stix_bundles.specs.declared.outline.Failure.TheVariants.{NoObject, NoType, NoId, NoList, NoMember}
use Rattle.stix_bundles.specs.inner.Failures.{FailsInObjects, FailsInMembers}

pub listed_items : (ds : List Data) → items_in_order (items_of ds) ≡ ds
listed_items [] = refl
listed_items (d ∷ ds) = ap (λ (rest : List Data). d ∷ rest) (listed_items ds)

pub data_of-Array : (objects : List Json) → data_of (json.Array objects) ≡ array (items_of (data_in objects))
data_of-Array objects = search (rules, the_lemmas)

-- a list of JSON values is a list of members, where it is as long as it may be
pub row_is_list : (value : Json) (objects : List Json) → value ≡ json.Array objects → 1 ≤ length objects → length objects ≤ MAX_OBJECTS
    → IsListOf (data_of value) (data_in objects)
row_is_list value objects is some not_too_many = record {
  items = items_of (data_in objects);
  list = ap (λ (value : Json). as_array (data_of value)) is ∙ ap as_array (data_of-Array objects);
  members_are = sym (listed_items (data_in objects));
  some = subst (λ n. 1 ≤ n) (sym (length-map objects data_of)) some;
  not_too_many = subst (λ n. n ≤ MAX_OBJECTS) (sym (length-map objects data_of)) not_too_many;
}

-- and the only one
pub list_is_row : (value : Json) (objects : List Json) (members : List Data) → value ≡ json.Array objects → IsListOf (data_of value) members
    → members ≡ data_in objects
list_is_row value objects members is list =
    let array_is : Some list.items ≡ Some (items_of (data_in objects)) = sym list.list ∙ ap (λ (value : Json). as_array (data_of value)) is ∙ ap as_array (data_of-Array objects) in
    let items : list.items ≡ items_of (data_in objects) = ap (λ (o : Option Items). unwrap_or o list.items) array_is in
    list.members_are ∙ ap items_in_order items ∙ listed_items (data_in objects)

-- what fails in the members fails in the list
pub fails_in_list : (value : Data) (members : List Data) → IsListOf value members → (failure : Option Failure)
    → IfSome failure (FailsInMembers members) → IfSome failure (FailsInObjects value)
fails_in_list value members list None fails = fails
fails_in_list value members list (Some NoObject) fails = fails
fails_in_list value members list (Some NoType) fails = fails
fails_in_list value members list (Some NoId) fails = fails
fails_in_list value members list (Some NoList) fails = absurd fails
fails_in_list value members list (Some (NoMember at)) fails = (members, list, fails)

-- and where nothing fails, the list is one of objects
pub list_is_well : (value : Data) (members : List Data) → IsListOf value members → (failure : Option Failure)
    → IfNone failure (All IsObject members) → IfNone failure ((ms : List Data) × IsListOf value ms × All IsObject ms)
list_is_well value members list None all = (members, list, all)
list_is_well value members list (Some failure) all = all
