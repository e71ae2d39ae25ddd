-- For private clauses: changes of a memo.
use Rattle.std.specs.Prelude.{◌≡◌, ◌↔◌, ◌⊎◌, ℕ, List, [], Contains, Option, Some, slice_get}

-- the root has an entry
abbrev pub IsMemoized : List (Option (List ℕ)) → ℕ → Type 0
IsMemoized memo root = (positions : List ℕ) × (slice_get memo root ≡ Some (Some positions))

-- the entry of a root was added; the other entries are unchanged
pub record AddsRoot (root : ℕ) (positions : List ℕ) (old new : List (Option (List ℕ))) : Type 0 where
  pub added : slice_get new root ≡ Some (Some positions)
  pub stays : (other : ℕ) → IsMemoized old other → IsMemoized new other
  pub no_other : (other : ℕ) (kept : List ℕ) → slice_get new other ≡ Some (Some kept) → (slice_get old other ≡ Some (Some kept)) ⊎ ((other ≡ root) × (kept ≡ positions))

-- empty entries were added for some roots; the other entries are unchanged
pub record InsertsEmpty (roots : List ℕ) (old new : List (Option (List ℕ))) : Type 0 where
  pub there : (root : ℕ) → Contains roots root → IsMemoized new root
  pub no_other : (root : ℕ) (positions : List ℕ) → slice_get new root ≡ Some (Some positions) → (slice_get old root ≡ Some (Some positions)) ⊎ (Contains roots root × (positions ≡ []))

-- the same roots have entries, and to each entry the brackets were added for which IsAdded holds
pub record AddsPositions (IsAdded : ℕ → ℕ → Type 0) (old new : List (Option (List ℕ))) : Type 0 where
  pub stays : (root : ℕ) → IsMemoized old root → IsMemoized new root
  pub positions : (root : ℕ) (after : List ℕ) → slice_get new root ≡ Some (Some after) → (before : List ℕ) × (slice_get old root ≡ Some (Some before))
      × ((position : ℕ) → Contains after position ↔ (Contains before position ⊎ IsAdded root position))
