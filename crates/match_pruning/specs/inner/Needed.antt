-- For private clauses: which new partial matches are needed. On the right of a FOLLOWEDBY those
-- that the store there retains, and those that a stored left operand joins to one needed further
-- out. Elsewhere all.
use Rattle.std.specs.Prelude.{ℕ, zero, suc, ℤ, Bool, true, ◌&&◌, ◌||◌, Some, List, [], ◌∷◌, filter}
use Rattle.std.specs.List.{list_any}
use Rattle.match_pruning.specs.declared.window.Window.{Window}
use Rattle.match_pruning.specs.declared.join.Join.{Join}
use Rattle.match_pruning.specs.declared.join.Join.TheVariants as join
use Rattle.match_pruning.specs.PartialMatchTree.{PartialMatchTree}
use Rattle.match_pruning.specs.inner.Retains.{retains}
use Rattle.match_pruning.specs.inner.Steps.{joined_matches, may_join, SideStores}

-- a pending left: the stored left operands of a FOLLOWEDBY, and the window of the store on its
-- right
pub record PendingLeftTrees : Type 0 where
  pub left : List PartialMatchTree
  pub window : Window

-- whether a partial match is needed under these pending lefts, the innermost first
abbrev pub is_needed : ℤ → List PendingLeftTrees → PartialMatchTree → Bool
is_needed now [] partial_match = true
is_needed now (innermost ∷ above) partial_match =
    retains innermost.window partial_match.earliest now || list_any (λ l. may_join join.Then l partial_match && is_needed now above (joined_matches join.Then l partial_match)) innermost.left

abbrev pub needed : ℤ → List PendingLeftTrees → List PartialMatchTree → List PartialMatchTree
needed now pending_lefts new = filter (is_needed now pending_lefts) new

-- the pending lefts of the right side of a node
abbrev pub pending_lefts_right : Join → SideStores → List PendingLeftTrees → List PendingLeftTrees
pending_lefts_right join.Then sides pending_lefts = record { left = sides.left; window = sides.right_window } ∷ pending_lefts
pending_lefts_right _ sides pending_lefts = []

-- a window in which nothing is retained
abbrev pub closed : Window → ℤ → Window
closed window now = record { seconds = window.seconds; start = window.start; stop = Some now; after_left = window.after_left }

-- the pending lefts of the part of a REPEATS: for no repeats nothing is needed, and where levels
-- store the parts all are
abbrev pub pending_lefts_part : ℕ → Window → ℤ → List PendingLeftTrees → List PendingLeftTrees
pending_lefts_part zero window now pending_lefts = record { left = []; window = closed window now } ∷ pending_lefts
pending_lefts_part (suc zero) window now pending_lefts = pending_lefts
pending_lefts_part (suc (suc n)) window now pending_lefts = []

-- the needed ones of new sets; for one repeat they were filtered as parts
abbrev pub needed_trees : ℕ → ℤ → List PendingLeftTrees → List PartialMatchTree → List PartialMatchTree
needed_trees zero now pending_lefts sets = []
needed_trees (suc zero) now pending_lefts sets = sets
needed_trees (suc (suc n)) now pending_lefts sets = needed now pending_lefts sets
