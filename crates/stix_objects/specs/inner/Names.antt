-- For private clauses and an invariant: a filter over property names, with one slot per hash.
use Rattle.std.specs.Prelude.{◌≡◌, ℕ, ◌+◌, ◌*◌, ◌%◌, List, [], ◌∷◌, length, get_or, Bool, false, None}
use Rattle.serde_json.specs.Data.{Data, Members}
use Rattle.serde_json.specs.Find.{get, get_member}

-- the slot of a name
abbrev pub slot : List ℕ → ℕ
slot [] = 0
slot (first ∷ rest) = (3 * first + 7 * (length (first ∷ rest) % 64)) % 64

-- whether the filter has the slot of a name
abbrev pub is_taken : List Bool → List ℕ → Bool
is_taken taken name = get_or taken (slot name) false

-- the filter is sound: a name whose slot is free is absent
abbrev pub Covers : List Bool → Data → Type 0
Covers taken d = (name : List ℕ) → is_taken taken name ≡ false → get name d ≡ None

-- the filter is sound for members
abbrev pub AreCovered : List Bool → Members → Type 0
AreCovered taken ms = (name : List ℕ) → is_taken taken name ≡ false → get_member name ms ≡ None
