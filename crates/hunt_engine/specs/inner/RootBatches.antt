-- For private clauses: roots at which each bracket is evaluated together.
use Rattle.std.specs.Prelude.{◌≡◌, ℕ, List, Contains, Option, Some, slice_get}
use Rattle.serde_json.specs.Data.{Data}
use Rattle.pattern_types.specs.PlainLeaf.{PlainLeaf}
use Rattle.match_comparisons.specs.Tests.{HoldsAt}
use Rattle.hunt_index.specs.Definite.{IsDefinite}
use Rattle.hunt_engine.specs.inner.Memos.{AddsPositions}

-- the object at the root meets the bracket at the index
abbrev pub IsMetBracket : List Data → List PlainLeaf → ℕ → ℕ → Type 0
IsMetBracket objects brackets root position = (bracket : PlainLeaf) × (slice_get brackets position ≡ Some bracket) × HoldsAt objects root bracket

-- the bracket at the index, if definite, holds at each of the roots
abbrev pub IsCertain : List Data → List PlainLeaf → ℕ → List ℕ → Type 0
IsCertain objects brackets position roots = (root : ℕ) (bracket : PlainLeaf) → Contains roots root → slice_get brackets position ≡ Some bracket → IsDefinite bracket
    → HoldsAt objects root bracket

-- the same for each pair of a bracket and a root
abbrev pub AreCertain : List Data → List PlainLeaf → List (ℕ × ℕ) → Type 0
AreCertain objects brackets pairs = (position root : ℕ) (bracket : PlainLeaf) → Contains pairs (position, root) → slice_get brackets position ≡ Some bracket → IsDefinite bracket
    → HoldsAt objects root bracket

-- the pairs have each bracket with each root that meets it, and definite brackets hold
pub record IsRootBatch (objects : List Data) (brackets : List PlainLeaf) (roots : List ℕ) (pairs : List (ℕ × ℕ)) : Type 0 where
  pub all : (root position : ℕ) → Contains roots root → IsMetBracket objects brackets root position → Contains pairs (position, root)
  pub certain : AreCertain objects brackets pairs

-- of some pairs those that hold are added to the memo
abbrev pub AddsMatching : List Data → List PlainLeaf → List (ℕ × ℕ) → List (Option (List ℕ)) → List (Option (List ℕ)) → Type 0
AddsMatching objects brackets pairs old new = AddsPositions (λ (root position : ℕ). Contains pairs (position, root) × IsMetBracket objects brackets root position) old new
