use Rattle.std.proofs.Common.{◌≡◌, take}
use Rattle.std.specs.Prelude.{true}
use Rattle.match_pruning.specs.PartialMatchTree.{PartialMatchTree}
use Rattle.match_pruning.specs.inner.CompletionBounds.{MayBegin}
use Rattle.match_pruning.specs.inner.Needed.{is_needed}
use Rattle.match_pruning.specs.inner.PendingLefts.{pending_lefts_of}
use Rattle.match_pruning.proofs.earliest_start.EarliestStart.new.Given as goal

abbrev pub invariant-loop-pending_left : goal.invariant-loop-pending_left
invariant-loop-pending_left l = (partial_match : PartialMatchTree) → is_needed l.now (pending_lefts_of (take l.pending_left-index l.pending_lefts)) partial_match ≡ true → MayBegin l.earliest_start partial_match
