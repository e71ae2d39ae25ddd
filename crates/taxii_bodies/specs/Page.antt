-- The body of a page (TAXII 2.1, sections 5.3.1 and 5.8.1): whether there are more, and a list.
use Rattle.std.specs.Prelude.{ℕ, List, [], ◌∷◌, codes, Bool}
use Rattle.serde_json.specs.Data.{Data, boolean, array, object, Members, no_members, member}
use Rattle.serde_json.specs.View.{items_of}

-- a list under a name before other members, left out where it is empty
abbrev pub list_before : List ℕ → List Data → Members → Members
list_before name [] rest = rest
list_before name (value ∷ values) rest = member name (array (items_of (value ∷ values))) rest

-- {"more":..,NAME:[..]}
abbrev pub page_data : Bool → List ℕ → List Data → Data
page_data more name values = object (member (codes "more") (boolean more) (list_before name values no_members))
