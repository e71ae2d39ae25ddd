-- For private clauses: bounds on the completions of a new partial match, which join it to one
-- stored left operand of each FOLLOWEDBY.
use Rattle.std.specs.Prelude.{◌≡◌, ℕ, ℤ, int_le, ◌≤ℤ◌, ⊤, Bool, true, false, ◌&&◌, Option, Some, None, List}
use Rattle.std.specs.List.{Contains}
use Rattle.match_bindings.specs.BindTree.{BindTree, has, disjoint}
use Rattle.match_pruning.specs.declared.completion_bound.CandidateSet.{CandidateSet}
use Rattle.match_pruning.specs.declared.completion_bound.CandidateSet.TheVariants as candidate_set
use Rattle.match_pruning.specs.declared.completion_bound.CompletionBound.{CompletionBound}
use Rattle.match_pruning.specs.declared.greedy_completion.GreedyCompletion.{GreedyCompletion}
use Rattle.match_pruning.specs.declared.earliest_start.EarliestStart.{EarliestStart}
use Rattle.match_pruning.specs.PartialMatchTree.{PartialMatchTree}
use Rattle.match_pruning.specs.inner.Picks.{HasNumberAt, HasPerfectMatching}
use Rattle.match_pruning.specs.inner.Needed.{PendingLeftTrees, is_needed}

-- whether a time isn't before the start, if there is one
abbrev pub covers : Option ℤ → ℤ → Bool
covers None time = true
covers (Some start) time = int_le start time

-- how a needed partial match may begin: not before the start, and where it begins exactly then,
-- without the excluded number
pub record MayBegin (earliest_start : EarliestStart) (partial_match : PartialMatchTree) : Type 0 where
  pub covered : covers earliest_start.start partial_match.earliest ≡ true
  pub free : (n : ℕ) → earliest_start.taken ≡ Some n → earliest_start.start ≡ Some partial_match.earliest → has n partial_match.tree ≡ false

-- each needed partial match may begin so
abbrev pub IsEarliestStart : EarliestStart → ℤ → List PendingLeftTrees → Type 0
IsEarliestStart earliest_start now pending_lefts = (partial_match : PartialMatchTree) → is_needed now pending_lefts partial_match ≡ true → MayBegin earliest_start partial_match

-- how a left operand may end: not before the start, and where it ends exactly then, with the
-- excluded number
pub record MayEndOperand (earliest_start : EarliestStart) (partial_match : PartialMatchTree) : Type 0 where
  pub covered : covers earliest_start.start partial_match.latest ≡ true
  pub taken : (n : ℕ) → earliest_start.taken ≡ Some n → earliest_start.start ≡ Some partial_match.latest → has n partial_match.tree ≡ true

-- a greedy completion summarizes a partial match: its begin, and all of its numbers
pub record IsGreedyCompletion (greedy_completion : GreedyCompletion) (partial_match : PartialMatchTree) : Type 0 where
  pub begins : partial_match.earliest ≡ greedy_completion.earliest
  pub numbers : (n : ℕ) → has n partial_match.tree ≡ true → Contains greedy_completion.numbers.items n

-- whether a left operand may precede a completion that has the new partial match and begins at the
-- bound at the latest
abbrev pub may_precede : PartialMatchTree → ℤ → PartialMatchTree → Bool
may_precede left bound partial_match = int_le left.latest bound && disjoint left.tree partial_match.tree

-- where the candidate set is a list, the binding's number at that position is in it
abbrev pub IsInCandidateSet : CandidateSet → ℕ → BindTree → Type 0
IsInCandidateSet (candidate_set.Few found) place x = HasNumberAt found.items place x
IsInCandidateSet candidate_set.Many place x = ⊤
IsInCandidateSet candidate_set.Short place x = ⊤

-- a completion has the new partial match in it, begins no later than the bound, and where it begins
-- then, assigns a distinct number to each vertex
pub record IsReachedCompletion (partial_match : PartialMatchTree) (completion_bound : CompletionBound) (greedy_completion : PartialMatchTree) : Type 0 where
  pub has_partial_match : (n : ℕ) → has n partial_match.tree ≡ true → has n greedy_completion.tree ≡ true
  pub bound : greedy_completion.earliest ≤ℤ completion_bound.earliest
  pub picks : greedy_completion.earliest ≡ completion_bound.earliest → HasPerfectMatching completion_bound.matching.list.items greedy_completion.tree
