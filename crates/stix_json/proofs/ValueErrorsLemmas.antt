-- What the forms of a Json are as data, and lists that grow at their end.
use Rattle.std.proofs.Common.{◌≡◌, ℕ, Bool, List, [], ◌∷◌, ◌++◌, map, ℤ, Option, Some, None, option_map, rules, refl, ap, ◌∙◌}
use Rattle.std.specs.Option.{option_or}
use Rattle.serde_json.specs.Data.{Data, boolean, number, string, array, object}
use Rattle.serde_json.specs.Find.{of_integer}
use Rattle.serde_json.specs.View.{items_of}
use Rattle.stix_json.specs.DataOf.{members_of, data_of, field_data}
use Rattle.stix_json.specs.declared.value.Json.{Json, Object, the_lemmas}
use Rattle.stix_json.specs.declared.value.Json.TheVariants as value
use Rattle.stix_json.specs.declared.value.Field.{Field}
use Rattle.stix_json.specs.declared.value.Json.TheViews.{roll-Field}

pub data_of-Object : (fields : List Field) → data_of (Object fields) ≡ object (members_of (map field_data fields))
data_of-Object fields = search (rules, the_lemmas)

pub data_of-String : (text words : List ℕ) → text ≡ words → data_of (value.String text) ≡ string words
data_of-String text words same = let seen : data_of (value.String text) ≡ string text = search (rules, the_lemmas) in seen ∙ ap string same

pub data_of-Bool : (truth : Bool) → data_of (value.Bool truth) ≡ boolean truth
data_of-Bool truth = search (rules, the_lemmas)

pub data_of-Array : (row : List Json) → data_of (value.Array row) ≡ array (items_of (map data_of row))
data_of-Array row = search (rules, the_lemmas)

pub option_or_none : {X : Type 0} (a b : Option X) → option_or a b ≡ None → (a ≡ None) × (b ≡ None)
option_or_none None b h = (refl, h)
option_or_none (Some x) b h = absurd (cc)

pub option_map_none : {X Y : Type 0} (f : X → Y) (o : Option X) → option_map f o ≡ None → o ≡ None
option_map_none f None h = refl
option_map_none f (Some x) h = absurd (cc)

pub data_of-Integer : (whole : ℤ) → data_of (value.Integer whole) ≡ number (of_integer whole)
data_of-Integer whole = search (rules, the_lemmas)

pub map_pushed : {A C : Type 0} (f : A → C) (xs : List A) (x : A) → map f (xs ++ x ∷ []) ≡ map f xs ++ f x ∷ []
map_pushed f [] x = refl
map_pushed f (y ∷ ys) x = ap (λ zs. f y ∷ zs) (map_pushed f ys x)

-- a field is the member with its name and its value
pub same_member : {name bytes : List ℕ} {d : Data} (value : Json) → name ≡ bytes → data_of value ≡ d → field_data (roll-Field (record { name = name; value = value })) ≡ record { name = bytes; value = d }
same_member value named is = rw (named, is) refl
