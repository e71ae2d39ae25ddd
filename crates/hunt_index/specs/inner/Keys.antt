-- For private clauses: the values that a key matches, and equal keys.
use Rattle.std.specs.Prelude.{◌≡◌, ⊤, Option, Some, None}
use Rattle.serde_json.specs.Data.{Data, number}
use Rattle.serde_json.specs.Find.{as_str, of_integer}
use Rattle.hunt_index.specs.declared.key.Key.{Key}
use Rattle.hunt_index.specs.declared.key.Key.TheVariants.{Any, Integer, Text}

-- the key matches the value
abbrev pub FitsKey : Key → Data → Type 0
FitsKey Any value = ⊤
FitsKey (Integer whole) value = value ≡ number (of_integer whole)
FitsKey (Text text) value = as_str value ≡ Some text.now

-- the keys match the same values, wherever their texts lie in memory
abbrev pub AreSame : Key → Key → Type 0
AreSame Any Any = ⊤
AreSame (Integer whole) (Integer other) = whole ≡ other
AreSame (Text text) (Text other) = text.now ≡ other.now
AreSame _ _ = ⊥

-- the key is `Any`, or equals the one found
abbrev pub IsAskedKey : Option Key → Key → Type 0
IsAskedKey found Any = ⊤
IsAskedKey None (Integer whole) = ⊥
IsAskedKey None (Text text) = ⊥
IsAskedKey (Some key) (Integer whole) = AreSame (Integer whole) key
IsAskedKey (Some key) (Text text) = AreSame (Text text) key
