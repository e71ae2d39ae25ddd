-- For private clauses: block summaries of sorted keys, and which right operands a left one can't
-- join.
use Rattle.std.specs.Prelude.{◌≡◌, ◌⊎◌, ℕ, ◌≤◌, ◌<◌, ◌≤ℤ◌, ℤ, true, false, Option, List, length, slice_index_or}
use Rattle.std.specs.List.{AllWithin, Contains}
use Rattle.std.specs.List.Sorted.{IsNonDecreasing}
use Rattle.match_bindings.specs.BindTree.{has}
use Rattle.match_pruning.specs.declared.block.Block.{Block}
use Rattle.match_pruning.specs.declared.block.Blocks.{Blocks}
use Rattle.match_pruning.specs.declared.join.Join.{Join}
use Rattle.match_pruning.specs.declared.key.SortKey.{SortKey}
use Rattle.match_pruning.specs.declared.partial_match.PartialMatch.{PartialMatch}
use Rattle.match_pruning.specs.declared.query.Query.{Query}
use Rattle.match_pruning.specs.declared.skip_index.SkipIndex.{SkipIndex}
use Rattle.match_pruning.specs.PartialMatchTree.{PartialMatchTree}
use Rattle.match_pruning.specs.inner.PartialMatches.{partial_match_tree}
use Rattle.match_pruning.specs.inner.CompletionBounds.{covers}
use Rattle.match_pruning.specs.inner.Steps.{joined_matches, may_join}

-- if two operands join, the result begins before the earliest start
abbrev pub BeginsEarly : Option ℤ → Join → PartialMatchTree → PartialMatchTree → Type 0
BeginsEarly earliest_start j x y = may_join j x y ≡ true → covers earliest_start (joined_matches j x y).earliest ≡ false

-- a partial match has these numbers, and begins no later than `begin`
pub record HasCommon (numbers : List ℕ) (begin : ℤ) (partial_match : PartialMatchTree) : Type 0 where
  pub binds : (n : ℕ) → Contains numbers n → has n partial_match.tree ≡ true
  pub begins : partial_match.earliest ≤ℤ begin

-- the keys of a list of operands: each key describes one operand, and each operand has a key
pub record AreOperandKeys (candidates : List PartialMatch) (keys : List SortKey) : Type 0 where
  pub each : (key : SortKey) → Contains keys key → (key.place < length candidates)
      × ((d : PartialMatch) → HasCommon key.numbers.items key.begin (partial_match_tree (slice_index_or candidates key.place d)))
  pub all : (place : ℕ) → place < length candidates → (key : SortKey) × Contains keys key × (key.place ≡ place)

-- a block's summary holds for a key: its numbers are the key's, and the key begins no later
pub record IsCommonTo (block : Block) (key : SortKey) : Type 0 where
  pub numbers : (n : ℕ) → Contains block.common.items n → Contains key.numbers.items n
  pub begins : key.begin ≤ℤ block.begin

pub record IsBlockOfKeys (keys : List SortKey) (block : Block) : Type 0 where
  pub within : block.end ≤ length keys
  pub over : AllWithin (IsCommonTo block) keys block.start block.end

abbrev pub AreBlocksOf : List SortKey → Blocks → Type 0
AreBlocksOf keys blocks = (block : Block) → Contains blocks.blocks.items block → IsBlockOfKeys keys block

abbrev pub AreLevelsOf : List SortKey → List Blocks → Type 0
AreLevelsOf keys levels = (blocks : Blocks) → Contains levels blocks → AreBlocksOf keys blocks

-- the skip index of a list of operands
pub record IsSkipIndexOf (candidates : List PartialMatch) (skip_index : SkipIndex) : Type 0 where
  pub keys : AreOperandKeys candidates skip_index.keys.items
  pub levels : AreLevelsOf skip_index.keys.items skip_index.levels.items

-- the query describes a left operand
pub record IsLeftOperandQuery (j : Join) (time : Option ℤ) (partial_match : PartialMatchTree) (query : Query) : Type 0 where
  pub join : query.join ≡ j
  pub earliest_start : query.earliest_start.start ≡ time
  pub binds : (n : ℕ) → Contains query.numbers.items n → has n partial_match.tree ≡ true
  pub ends : partial_match.latest ≡ query.end

-- no left operand of the query joins the right one to a result that begins in time
abbrev pub CannotJoin : Query → PartialMatchTree → Type 0
CannotJoin query second = (first : PartialMatchTree) → IsLeftOperandQuery query.join query.earliest_start.start first query → BeginsEarly query.earliest_start.start query.join first second

-- nor any right operand with this key
abbrev pub IsExcluded : Query → SortKey → Type 0
IsExcluded query key = (second : PartialMatchTree) → HasCommon key.numbers.items key.begin second → CannotJoin query second

-- the indices, ascending, of all right operands that may join the left one to a result in time
pub record AreTried (earliest_start : Option ℤ) (j : Join) (first : PartialMatchTree) (candidates : List PartialMatch) (places : List ℕ) : Type 0 where
  pub sift_up : IsNonDecreasing places
  pub within : (place : ℕ) → Contains places place → place < length candidates
  pub others : (place : ℕ) → place < length candidates → Contains places place ⊎ ((d : PartialMatch) → BeginsEarly earliest_start j first (partial_match_tree (slice_index_or candidates place d)))
