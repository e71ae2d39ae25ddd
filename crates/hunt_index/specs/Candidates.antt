-- The candidates for an observation: no bracket that holds is missed, and definite ones hold.
use Rattle.std.specs.Prelude.{◌≡◌, ℕ, ◌<◌, List, length, All, Contains, Some, slice_get}
use Rattle.std.specs.List.Sorted.{IsStrictlyIncreasing}
use Rattle.serde_json.specs.Data.{Data}
use Rattle.pattern_types.specs.PlainLeaf.{PlainLeaf}
use Rattle.match_comparisons.specs.Tests.{LeafHolds}
use Rattle.hunt_index.specs.Definite.{IsDefinite}

-- indices of brackets, ascending: each bracket that holds for an observation of these roots is
-- among them, and each definite one among them holds
pub record AreCandidates (objects : List Data) (roots : List ℕ) (brackets : List PlainLeaf) (brackets_found : List ℕ) : Type 0 where
  pub ascend : IsStrictlyIncreasing brackets_found
  pub there : All (λ (bracket : ℕ). bracket < length brackets) brackets_found
  pub all : (bracket : ℕ) (leaf : PlainLeaf) → slice_get brackets bracket ≡ Some leaf → LeafHolds objects roots leaf
      → Contains brackets_found bracket
  pub certain : (bracket : ℕ) (leaf : PlainLeaf) → Contains brackets_found bracket → slice_get brackets bracket ≡ Some leaf → IsDefinite leaf
      → LeafHolds objects roots leaf
