-- The values inside a JSON value in depth-first preorder, each with the parts of its path. The
-- items of a list are in their order. The members of an object are in theirs, which after reading
-- is that of the bytes of their names (RFC 8259, sections 4 and 5).
use Rattle.std.specs.Prelude.{ℕ, ◌+◌, List, [], ◌∷◌, ◌++◌, decimal}
use Rattle.std.specs.List.{join_with_byte}
use Rattle.serde_json.specs.Data.{Data, null, boolean, number, string, array, object, Items, no_items, item, Members, no_members, member}

-- a value, and the parts of its path: names and indices
pub record Visit : Type 0 where
  pub parts : List (List ℕ)
  pub value : Data

-- the part for the index of an item, counted from 0: [n]
abbrev pub index_part : ℕ → List ℕ
index_part at = 91 ∷ (decimal at ++ 93 ∷ [])

-- the text of a path: its parts joined by dots
abbrev pub path_text : List (List ℕ) → List ℕ
path_text parts = join_with_byte 46 parts

-- the value at a path, and then all values inside it
abbrev mutual
  pub walk : List (List ℕ) → Data → List Visit
  walk parts null = record { parts = parts; value = null } ∷ []
  walk parts (boolean b) = record { parts = parts; value = boolean b } ∷ []
  walk parts (number n) = record { parts = parts; value = number n } ∷ []
  walk parts (string s) = record { parts = parts; value = string s } ∷ []
  walk parts (array ds) = record { parts = parts; value = array ds } ∷ walk_items parts 0 ds
  walk parts (object ms) = record { parts = parts; value = object ms } ∷ walk_members parts ms

  -- the items from an index on
  pub walk_items : List (List ℕ) → ℕ → Items → List Visit
  walk_items parts at no_items = []
  walk_items parts at (item d ds) = walk (parts ++ index_part at ∷ []) d ++ walk_items parts (at + 1) ds

  pub walk_members : List (List ℕ) → Members → List Visit
  walk_members parts no_members = []
  walk_members parts (member name d ms) = walk (parts ++ name ∷ []) d ++ walk_members parts ms
