-- For private clauses: a 4-ary heap by earliest time. The children of index p are 4 p + 1 to 4 p +
-- 4.
use Rattle.std.specs.Prelude.{ℕ, ◌+◌, ◌*◌, ◌≤◌, ◌<◌, ℤ, ◌≤ℤ◌, ◌<ℤ◌, List, length, slice_index_or}
use Rattle.match_pruning.specs.declared.partial_match.PartialMatch.{PartialMatch}

abbrev pub IsChild : ℕ → ℕ → Type 0
IsChild p i = (4 * p + 1 ≤ i) × (i ≤ 4 * p + 4)

-- among the first n times none is earlier than its parent
abbrev pub AreHeaped : (ℕ → ℤ) → ℕ → Type 0
AreHeaped time n = (p i : ℕ) → IsChild p i → i < n → time p ≤ℤ time i

-- except for the children of the root
abbrev pub AreHeapedBelow : (ℕ → ℤ) → ℕ → Type 0
AreHeapedBelow time n = (p i : ℕ) → IsChild p i → i < n → 0 < p → time p ≤ℤ time i

-- the earliest time of the element at an index
abbrev pub time_at : List PartialMatch → PartialMatch → ℕ → ℤ
time_at held d i = (slice_index_or held i d).earliest

-- the first n elements are a heap
abbrev pub IsHeap : List PartialMatch → ℕ → Type 0
IsHeap held n = (d : PartialMatch) → AreHeaped (time_at held d) n

abbrev pub IsHeapBelow : List PartialMatch → ℕ → Type 0
IsHeapBelow held n = (d : PartialMatch) → AreHeapedBelow (time_at held d) n

-- no other child is earlier
pub record IsEarliestChild (held : List PartialMatch) (at child n : ℕ) : Type 0 where
  pub is_child : IsChild at child
  pub inside : child < n
  pub earliest : (d : PartialMatch) (i : ℕ) → IsChild at i → i < n → time_at held d child ≤ℤ time_at held d i

-- each element from one index up to another begins after the time
abbrev pub AreLater : List PartialMatch → ℤ → ℕ → ℕ → Type 0
AreLater held time from end = (d : PartialMatch) (i : ℕ) → from ≤ i → i < end → time <ℤ time_at held d i

-- the last element before the end that begins at the time or earlier
pub record IsLastBegun (held : List PartialMatch) (time : ℤ) (at end : ℕ) : Type 0 where
  pub inside : at < end
  pub begun : (d : PartialMatch) → time_at held d at ≤ℤ time
  pub later : AreLater held time (at + 1) end

-- the first element from an index on that begins at the time or earlier
pub record IsNextBegun (held : List PartialMatch) (time : ℤ) (at start : ℕ) : Type 0 where
  pub after : start ≤ at
  pub inside : at < length held
  pub begun : (d : PartialMatch) → time_at held d at ≤ℤ time
  pub later : AreLater held time start at
