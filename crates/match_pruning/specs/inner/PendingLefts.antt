-- For private clauses: pending lefts as plain data.
use Rattle.std.specs.Prelude.{List, [], ◌∷◌}
use Rattle.match_pruning.specs.declared.pending_left.PendingLeft.{PendingLeft}
use Rattle.match_pruning.specs.inner.PartialMatches.{partial_match_trees}
use Rattle.match_pruning.specs.inner.Needed.{PendingLeftTrees}

abbrev pub pending_left_trees : PendingLeft → PendingLeftTrees
pending_left_trees pending_left = record { left = partial_match_trees pending_left.left.held.items; window = pending_left.window }

-- the list grows at its end, where the innermost is
abbrev pub pending_lefts_from : List PendingLeftTrees → List PendingLeft → List PendingLeftTrees
pending_lefts_from above [] = above
pending_lefts_from above (pending_left ∷ pending_lefts) = pending_lefts_from (pending_left_trees pending_left ∷ above) pending_lefts

abbrev pub pending_lefts_of : List PendingLeft → List PendingLeftTrees
pending_lefts_of pending_lefts = pending_lefts_from [] pending_lefts
