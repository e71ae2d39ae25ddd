-- For private clauses: the range of each pattern's brackets in the list of all.
use Rattle.std.specs.Prelude.{◌≡◌, ℕ, zero, suc, ◌+◌, ◌≤◌, ◌<◌, List, [], ◌∷◌, Some, length, take, drop, slice_get}
use Rattle.pattern_types.specs.PlainLeaf.{PlainLeaf}
use Rattle.pattern_types.specs.PlainPattern.{PlainPattern}
use Rattle.hunt_engine.specs.declared.brackets.BracketRange.{BracketRange}
use Rattle.hunt_engine.specs.EngineAnswer.{NeverFalls}
use Rattle.hunt_engine.specs.Memo.{leaf_list}

-- a range of a list
abbrev pub part_of : {A : Type 0} → BracketRange → List A → List A
part_of bracket_range xs = take bracket_range.count (drop bracket_range.first xs)

-- k times the same number
abbrev pub repeated : ℕ → ℕ → List ℕ
repeated n zero = []
repeated n (suc k) = n ∷ repeated n k

-- all brackets, pattern after pattern, and for each the index of its pattern
pub record IsTable (patterns : List PlainPattern) (leaves : List PlainLeaf) (owners : List ℕ) (bracket_ranges : List BracketRange) : Type 0 where
  pub owned : length owners ≡ length leaves
  pub told : length bracket_ranges ≡ length patterns
  pub brackets : (position : ℕ) (p : PlainPattern) (bracket_range : BracketRange) → slice_get patterns position ≡ Some p → slice_get bracket_ranges position ≡ Some bracket_range
      → part_of bracket_range leaves ≡ leaf_list p
  pub inside : (position : ℕ) (bracket_range : BracketRange) → slice_get bracket_ranges position ≡ Some bracket_range → bracket_range.first + bracket_range.count ≤ length leaves
  pub owner_of : (position at : ℕ) (bracket_range : BracketRange) → slice_get bracket_ranges position ≡ Some bracket_range → bracket_range.first ≤ at → at < bracket_range.first + bracket_range.count
      → slice_get owners at ≡ Some position
  pub valid : (at position : ℕ) → slice_get owners at ≡ Some position → position < length patterns
  pub ascend : NeverFalls owners
