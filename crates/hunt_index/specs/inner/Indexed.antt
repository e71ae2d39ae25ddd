-- For private clauses and the invariant of an index: it finds each bracket that holds.
use Rattle.std.specs.Prelude.{◌≡◌, ◌⊎◌, ℕ, ◌<◌, List, length, All, Contains, Some, None, slice_get}
use Rattle.std.specs.Borrow.{Bor}
use Rattle.serde_json.specs.Data.{Data}
use Rattle.pattern_types.specs.declared.leaf.Leaf.{Leaf}
use Rattle.pattern_types.specs.PlainLeaf.{plain_leaf}
use Rattle.match_comparisons.specs.Selection.{IsRoot, Reaches}
use Rattle.match_comparisons.specs.Tests.{HoldsAt}
use Rattle.hunt_index.specs.declared.index_key.IndexKey.{IndexKey}
use Rattle.hunt_index.specs.declared.paths.Lookup.{Lookup}
use Rattle.hunt_index.specs.declared.finder.Finder.{Finder}
use Rattle.hunt_index.specs.inner.Keys.{FitsKey}
use Rattle.hunt_index.specs.Definite.{ArePlain, IsDefinite}

-- the path of the look-up leads from the object to a value that its key matches
pub record IsReachedFrom (paths : List IndexKey) (objects : List Data) (object : Data) (lookup : Lookup) : Type 0 where
  pub path : IndexKey
  pub there : slice_get paths lookup.path ≡ Some path
  pub plain : ArePlain path.steps.now
  pub value : Data
  pub reached : Reaches objects None path.steps.now object value
  pub fits : FitsKey lookup.key value

-- the same from a root of the path's type
pub record LeadsToLookup (finder : Finder) (objects : List Data) (root : ℕ) (lookup : Lookup) : Type 0 where
  pub object : Data
  pub reached : IsReachedFrom finder.paths.items objects object lookup
  pub is_root : IsRoot objects root reached.path.kind.now object
  pub kinded : Contains finder.kinds.entries.items (reached.path.kind, lookup.path)

-- a look-up that the root leads to has the bracket in its posting list
pub record IsLedTo (finder : Finder) (bracket : ℕ) (objects : List Data) (root : ℕ) : Type 0 where
  pub lookup : Lookup
  pub leads : LeadsToLookup finder objects root lookup
  pub entered : Contains finder.brackets_found.entries.items (lookup, bracket)

-- the bracket is always a candidate, or is found from each root at which it holds
abbrev pub IsFoundBracket : Finder → Leaf → ℕ → Type 0
IsFoundBracket finder leaf bracket = Contains finder.unindexed.items bracket
    ⊎ ((objects : List Data) (root : ℕ) → HoldsAt objects root (plain_leaf leaf) → IsLedTo finder bracket objects root)

-- as IsReachedFrom, but the path may have a `[*]`
pub record IsSeenFrom (paths : List IndexKey) (objects : List Data) (object : Data) (lookup : Lookup) : Type 0 where
  pub path : IndexKey
  pub there : slice_get paths lookup.path ≡ Some path
  pub value : Data
  pub reached : Reaches objects None path.steps.now object value
  pub fits : FitsKey lookup.key value

-- the same from a root of the path's type
pub record IsSeen (paths : List IndexKey) (objects : List Data) (root : ℕ) (lookup : Lookup) : Type 0 where
  pub object : Data
  pub seen : IsSeenFrom paths objects object lookup
  pub is_root : IsRoot objects root seen.path.kind.now object

-- where the bracket is definite, it holds at each root from which the look-up matches
abbrev pub IsDefiniteFor : List IndexKey → Leaf → Lookup → Type 0
IsDefiniteFor paths leaf lookup = IsDefinite (plain_leaf leaf) → (objects : List Data) (root : ℕ) → IsSeen paths objects root lookup → HoldsAt objects root (plain_leaf leaf)

-- the entry belongs to a bracket, and implies it where that is definite
pub record IsEntryOf (brackets : List Leaf) (paths : List IndexKey) (entry : Lookup × ℕ) : Type 0 where
  pub below : entry.1 < length brackets
  pub implies : (leaf : Leaf) → slice_get brackets entry.1 ≡ Some leaf → IsDefiniteFor paths leaf entry.0

-- the index of a bracket that isn't definite
pub record IsOpenOf (brackets : List Leaf) (bracket : ℕ) : Type 0 where
  pub below : bracket < length brackets
  pub indefinite : (leaf : Leaf) → slice_get brackets bracket ≡ Some leaf → ¬ IsDefinite (plain_leaf leaf)

-- the number of a path for roots of this type
abbrev pub IsPathEntryOfKind : List IndexKey → Bor (List ℕ) × ℕ → Type 0
IsPathEntryOfKind paths entry = (path : IndexKey) → slice_get paths entry.1 ≡ Some path → path.kind.now ≡ entry.0.now

-- the tables find these brackets, and nothing else
pub record IsFinderOf (brackets : List Leaf) (finder : Finder) : Type 0 where
  pub found : (bracket : ℕ) (leaf : Leaf) → slice_get brackets bracket ≡ Some leaf → IsFoundBracket finder leaf bracket
  pub brackets_found : All (IsEntryOf brackets finder.paths.items) finder.brackets_found.entries.items
  pub unindexed : All (IsOpenOf brackets) finder.unindexed.items
  pub kinds : All (IsPathEntryOfKind finder.paths.items) finder.kinds.entries.items
