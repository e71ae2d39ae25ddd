-- Properties of an object that are texts or lists (RFC 8259, section 4).
use Rattle.std.specs.Prelude.{ℕ, List, Option, option_and_then}
use Rattle.serde_json.specs.Data.{Data, Items}
use Rattle.serde_json.specs.Find.{get, as_str, as_array}

-- the text of a property, if it is one
abbrev pub property_text : List ℕ → Data → Option (List ℕ)
property_text name d = option_and_then as_str (get name d)

-- the items of a property, if it is a list
abbrev pub list_at : List ℕ → Data → Option Items
list_at name d = option_and_then as_array (get name d)
