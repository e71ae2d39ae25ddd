-- For private clauses: a join appends the needed results, within its budget.
use Rattle.std.specs.Prelude.{◌≡◌, ◌+◌, ◌<◌, List, ◌++◌, length}
use Rattle.match_pruning.specs.declared.join_filter.JoinFilter.{JoinFilter}
use Rattle.match_pruning.specs.declared.partial_match.PartialMatch.{PartialMatch}
use Rattle.match_pruning.specs.PartialMatchTree.{PartialMatchTree}
use Rattle.match_pruning.specs.inner.PendingLefts.{pending_lefts_of}
use Rattle.match_pruning.specs.inner.PartialMatches.{partial_match_trees}
use Rattle.match_pruning.specs.inner.Needed.{needed}

-- the needed ones of new partial matches
abbrev pub join_filtered : JoinFilter → List PartialMatchTree → List PartialMatchTree
join_filtered join_filter new = needed join_filter.time (pending_lefts_of join_filter.pending_lefts.now) new

-- they are appended to the output
abbrev pub AreAdded : JoinFilter → List PartialMatchTree → List PartialMatch → List PartialMatch → Type 0
AreAdded join_filter new before after = partial_match_trees after ≡ partial_match_trees before ++ join_filtered join_filter new

-- with the output they exceed the budget
abbrev pub AreTooMany : JoinFilter → List PartialMatchTree → List PartialMatch → Type 0
AreTooMany join_filter new before = join_filter.budget < length before + length (join_filtered join_filter new)
