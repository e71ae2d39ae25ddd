-- For private clauses: rows of truths for some observations, to which those of a pattern are
-- appended.
use Rattle.std.specs.Prelude.{◌≡◌, ⊤, Bool, List, [], ◌∷◌, ◌++◌}
use Rattle.serde_json.specs.Data.{Data}
use Rattle.stix_bundles.specs.declared.observation.Observation.{Observation}
use Rattle.pattern_types.specs.PlainPattern.{PlainPattern}
use Rattle.match_comparisons.specs.Truths.{AreTruths}

-- truths that satisfy AreOwn are appended to a row
abbrev pub AppendsTruths : (List Bool → Type 0) → List Bool → List Bool → Type 0
AppendsTruths AreOwn old new = (own : List Bool) × (new ≡ old ++ own) × AreOwn own

-- the same for the row of each observation
abbrev pub AddsToEach : (Observation → List Bool → Type 0) → List Observation → List (List Bool) → List (List Bool) → Type 0
AddsToEach AreOwn [] [] [] = ⊤
AddsToEach AreOwn (observation ∷ observations) (old ∷ olds) (new ∷ news) = AppendsTruths (AreOwn observation) old new × AddsToEach AreOwn observations olds news
AddsToEach AreOwn observations olds news = ⊥

-- the truths of a pattern are appended to the row of each observation
abbrev pub AddsTruths : List Data → PlainPattern → List Observation → List (List Bool) → List (List Bool) → Type 0
AddsTruths objects pattern observations olds news =
    AddsToEach (λ (observation : Observation) (own : List Bool). AreTruths objects observation.roots pattern own) observations olds news
