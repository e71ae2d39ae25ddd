-- The truths of a pattern's brackets for an observation (STIX 2.1, section 9.5).
use Rattle.std.specs.Prelude.{◌≡◌, ◌↔◌, ℕ, Bool, IsTrue, List, [], ◌∷◌, ◌++◌}
use Rattle.std.specs.List.{AllZip}
use Rattle.serde_json.specs.Data.{Data}
use Rattle.stix_bundles.specs.declared.observation.Observation.{Observation}
use Rattle.pattern_types.specs.PlainPattern.{PlainPattern, a_leaf, a_both, an_either, a_then, a_limited}
use Rattle.match_comparisons.specs.Tests.{LeafHolds}

-- the truths of the left side, then those of the right
abbrev pub AreOfBoth : {A : Type 0} → (List A → Type 0) → (List A → Type 0) → List A → Type 0
AreOfBoth {A} AreLeft IsSoundMemo truths = (lefts rights : List A) × AreLeft lefts × IsSoundMemo rights × (truths ≡ lefts ++ rights)

-- one truth for each leaf of a pattern, from left to right
abbrev pub AreTruths : List Data → List ℕ → PlainPattern → List Bool → Type 0
AreTruths objects roots (a_leaf leaf) truths = (truth : Bool) × (truths ≡ truth ∷ []) × (IsTrue truth ↔ LeafHolds objects roots leaf)
AreTruths objects roots (a_both left right) truths = AreOfBoth (AreTruths objects roots left) (AreTruths objects roots right) truths
AreTruths objects roots (an_either left right) truths = AreOfBoth (AreTruths objects roots left) (AreTruths objects roots right) truths
AreTruths objects roots (a_then left right) truths = AreOfBoth (AreTruths objects roots left) (AreTruths objects roots right) truths
AreTruths objects roots (a_limited part limit) truths = AreTruths objects roots part truths

-- for each observation, in turn, the truths of the pattern
abbrev pub AreTruthsOfEach : List Data → List Observation → PlainPattern → List (List Bool) → Type 0
AreTruthsOfEach objects observations pattern truths =
    AllZip (λ (observation : Observation) (own : List Bool). AreTruths objects observation.roots pattern own) observations truths
