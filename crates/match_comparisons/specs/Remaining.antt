-- The values that an iterator over a path has yet to return.
use Rattle.std.specs.Prelude.{◌≡◌, ◌↔◌, ℕ, List, [], ◌∷◌, ◌++◌, map, reverse, Option, Some, None}
use Rattle.std.specs.Borrow.{Bor}
use Rattle.serde_json.specs.Data.{Data}
use Rattle.stix_json.specs.declared.value.Json.{Json}
use Rattle.stix_json.specs.DataOf.{data_of}
use Rattle.stix_bundles.specs.Objects.{data_in}
use Rattle.match_comparisons.specs.declared.path_values.PathValues.{PathValues}
use Rattle.match_comparisons.specs.inner.Frames.{LeftIn, HasFrameSpace, weight}

-- these are left
abbrev pub Left : PathValues → List Data → Type 0
Left walk values = LeftIn (data_in walk.bundle.now) (reverse walk.frames.items) values

-- `next` may be called
abbrev pub IsReadyPathValues : PathValues → Type 0
IsReadyPathValues walk = HasFrameSpace (reverse walk.frames.items)

-- the values taken, followed by others that satisfy Rest
abbrev pub FollowsTaken : List Data → (List Data → Type 0) → List Data → Type 0
FollowsTaken taken Rest values = (rest : List Data) × (values ≡ taken ++ rest) × Rest rest

-- what `next` returns: the first value, and leaves the others; None exactly where none is left
abbrev pub Gives : PathValues → Option (Bor Json) → PathValues → Type 0
Gives before None after = (values : List Data) → Left before values ↔ (values ≡ [])
Gives before (Some value) after = (values : List Data) → Left before values ↔ FollowsTaken (data_of value.now ∷ []) (Left after) values

-- an upper bound on how many are left
abbrev pub most_left : PathValues → ℕ
most_left walk = weight (reverse walk.frames.items)

-- the values taken
abbrev pub taken_data : List (Bor Json) → List Data
taken_data taken = map (λ value. data_of value.now) taken
