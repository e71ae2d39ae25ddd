-- For private clauses: which brackets hold at a row, and to which patterns they belong.
use Rattle.std.specs.Prelude.{◌≡◌, ◌↔◌, ◌⊎◌, ℕ, ◌<◌, Bool, true, List, All, Contains, Some, length, slice_get}
use Rattle.serde_json.specs.Data.{Data}
use Rattle.pattern_types.specs.PlainLeaf.{PlainLeaf}
use Rattle.match_comparisons.specs.Tests.{HoldsAt, LeafHolds}
use Rattle.hunt_engine.specs.EngineAnswer.{NeverFalls}
use Rattle.hunt_feed.specs.Indicators.{IsAscending}

-- no bracket is marked
abbrev pub AreClear : List Bool → Type 0
AreClear marks = (at : ℕ) → slice_get marks at ≡ Some true → ⊥

-- the list has the indices of the marks
abbrev pub AreListed : List Bool → List ℕ → Type 0
AreListed marks positions = (at : ℕ) → (slice_get marks at ≡ Some true) ↔ Contains positions at

-- the brackets that hold are marked, and `affected` has their patterns, ascending, each once
pub record IsEvaluated (objects : List Data) (roots : List ℕ) (leaves : List PlainLeaf) (owners : List ℕ) (marks : List Bool) (affected : List ℕ) : Type 0 where
  pub count : length marks ≡ length leaves
  pub marks_hold : (at : ℕ) (leaf : PlainLeaf) → slice_get leaves at ≡ Some leaf → (slice_get marks at ≡ Some true) ↔ LeafHolds objects roots leaf
  pub ascend : IsAscending affected
  pub there : (at position : ℕ) → slice_get marks at ≡ Some true → slice_get owners at ≡ Some position → Contains affected position
  pub owned : (k position : ℕ) → slice_get affected k ≡ Some position → (at : ℕ) × (slice_get owners at ≡ Some position)

-- the brackets that hold are marked, and the list has their indices, in order
pub record MarksMatching (objects : List Data) (roots : List ℕ) (leaves : List PlainLeaf) (marks : List Bool) (positions : List ℕ) : Type 0 where
  pub count : length marks ≡ length leaves
  pub marks_hold : (at : ℕ) (leaf : PlainLeaf) → slice_get leaves at ≡ Some leaf → (slice_get marks at ≡ Some true) ↔ LeafHolds objects roots leaf
  pub listed : AreListed marks positions
  pub in_order : NeverFalls positions

-- the same after the first i roots
pub record MarkedSoFar (objects : List Data) (roots : List ℕ) (leaves : List PlainLeaf) (i : ℕ) (marks : List Bool) (positions : List ℕ) : Type 0 where
  pub count : length marks ≡ length leaves
  pub marked : (at : ℕ) (leaf : PlainLeaf) → slice_get marks at ≡ Some true → slice_get leaves at ≡ Some leaf → LeafHolds objects roots leaf
  pub all : (j root at : ℕ) (leaf : PlainLeaf) → j < i → slice_get roots j ≡ Some root → slice_get leaves at ≡ Some leaf → HoldsAt objects root leaf
      → slice_get marks at ≡ Some true
  pub listed : AreListed marks positions

-- the first i of some brackets are marked too; the other marks are unchanged
pub record MarksMore (own : List ℕ) (i : ℕ) (old : List Bool) (old_positions : List ℕ) (marks : List Bool) (positions : List ℕ) : Type 0 where
  pub count : length marks ≡ length old
  pub kept : (at : ℕ) → slice_get old at ≡ Some true → slice_get marks at ≡ Some true
  pub own_marked : (j at : ℕ) → j < i → slice_get own j ≡ Some at → slice_get marks at ≡ Some true
  pub no_other : (at : ℕ) → slice_get marks at ≡ Some true → (slice_get old at ≡ Some true) ⊎ Contains own at
  pub listed : AreListed old old_positions → AreListed marks positions

-- of the first i candidates at a root, those that hold there
pub record MatchingSoFar (objects : List Data) (leaves : List PlainLeaf) (root : ℕ) (candidates : List ℕ) (i : ℕ) (matching : List ℕ) : Type 0 where
  pub there : All (λ (position : ℕ). position < length leaves) matching
  pub holds : (at : ℕ) (leaf : PlainLeaf) → Contains matching at → slice_get leaves at ≡ Some leaf → HoldsAt objects root leaf
  pub all : (j at : ℕ) (leaf : PlainLeaf) → j < i → slice_get candidates j ≡ Some at → slice_get leaves at ≡ Some leaf → HoldsAt objects root leaf
      → Contains matching at

-- the owners of the first i brackets, ascending, each once
pub record AreOwners (owners positions : List ℕ) (i : ℕ) (affected : List ℕ) : Type 0 where
  pub ascend : IsAscending affected
  pub there : (j at position : ℕ) → j < i → slice_get positions j ≡ Some at → slice_get owners at ≡ Some position → Contains affected position
  pub owned : (k position : ℕ) → slice_get affected k ≡ Some position → (j at : ℕ) × (j < i) × (slice_get positions j ≡ Some at) × (slice_get owners at ≡ Some position)

-- an index is appended to smaller or equal ones
pub record AddsPosition (before : List ℕ) (position : ℕ) (after : List ℕ) : Type 0 where
  pub ascend : IsAscending after
  pub there : Contains after position
  pub stays : (other : ℕ) → Contains before other → Contains after other
  pub no_other : (k other : ℕ) → slice_get after k ≡ Some other → (slice_get before k ≡ Some other) ⊎ (other ≡ position)
