-- For private clauses: the frames of a walk, the deepest first, and the values that they have yet
-- to select.
use Rattle.std.specs.Prelude.{◌≡◌, ⊤, ℕ, ◌+◌, ◌*◌, ◌^◌, ◌≤◌, List, [], ◌∷◌, ◌++◌, length, All, Option, option_map}
use Rattle.std.specs.Borrow.{Bor}
use Rattle.serde_json.specs.Data.{Data}
use Rattle.stix_json.specs.Ordered.{IsOrdered}
use Rattle.stix_bundles.specs.Objects.{data_in}
use Rattle.pattern_types.specs.declared.path.Step.{Step}
use Rattle.pattern_types.specs.declared.path.TheConstants.{MAX_STEPS}
use Rattle.match_comparisons.specs.declared.frame.Frame.{Frame}
use Rattle.match_comparisons.specs.Selection.{Joined, StepsSelect}

-- the last property name before a frame's values
abbrev pub frame_property : Frame → Option (List ℕ)
frame_property frame = option_map (λ (name : Bor (List ℕ)). name.now) frame.last

-- what the steps of a frame select from its values
abbrev pub FrameSelects : List Data → Frame → List Data → Type 0
FrameSelects objects frame values = Joined (StepsSelect objects (frame_property frame) frame.steps.now) (data_in frame.values.now) values

-- what the frames select, concatenated
abbrev pub LeftIn : List Data → List Frame → List Data → Type 0
LeftIn objects [] values = values ≡ []
LeftIn objects (frame ∷ frames) values = (own rest : List Data) × FrameSelects objects frame own × LeftIn objects frames rest
    × (values ≡ own ++ rest)

-- above each frame there is space for a frame for each of its steps, and its values are sorted
abbrev pub HasFrameSpace : List Frame → Type 0
HasFrameSpace [] = ⊤
HasFrameSpace (frame ∷ frames) = (length frame.steps.now + length frames ≤ MAX_STEPS) × All IsOrdered (data_in frame.values.now) × HasFrameSpace frames

-- an upper bound on the weight of the frames that one value with these steps gives rise to
abbrev pub weight_of : List Step → ℕ
weight_of [] = 2
weight_of (step ∷ steps) = 2 ^ 64 * weight_of steps

-- a termination measure: it decreases with each value visited
abbrev pub weight : List Frame → ℕ
weight [] = 0
weight (frame ∷ frames) = length frame.values.now * weight_of frame.steps.now + 1 + weight frames
