-- For private clauses: a partition of positions by whether a fact holds of them.
use Rattle.std.specs.Prelude.{◌≡◌, ◌⊎◌, ℕ, List, [], ◌∷◌, ◌++◌, Contains, Bool, true, false}
use Rattle.match_comparisons.specs.declared.split.Split.{Split}

-- the positions for which the fact holds, and those for which it doesn't
pub record SplitsPositions (Fact : ℕ → Type 0) (asked : List ℕ) (split : Split) : Type 0 where
  pub held : (at : ℕ) → Contains split.held.items at → Contains asked at × Fact at
  pub failed : (at : ℕ) → Contains split.failed.items at → Contains asked at × (¬ Fact at)
  pub all : (at : ℕ) → Contains asked at → Contains split.held.items at ⊎ Contains split.failed.items at

-- one position is added, to either side
abbrev pub AddsToSplit : Split → Split → ℕ → Bool → Type 0
AddsToSplit old new at true = (new.held.items ≡ old.held.items ++ at ∷ []) × (new.failed.items ≡ old.failed.items)
AddsToSplit old new at false = (new.held.items ≡ old.held.items) × (new.failed.items ≡ old.failed.items ++ at ∷ [])
