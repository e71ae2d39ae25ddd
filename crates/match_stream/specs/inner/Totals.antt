-- For private clauses: the retained count of a node after a row.
use Rattle.std.specs.Prelude.{◌≡◌, ℕ, ◌+◌, ◌<◌, ℤ, ⊤, Bool, List, [], ◌∷◌, map, length}
use Rattle.match_bindings.specs.BindTree.{Single}
use Rattle.match_pruning.specs.declared.window.Window.{Window}
use Rattle.match_pruning.specs.declared.join.Join.{Join}
use Rattle.match_pruning.specs.declared.join.Join.TheVariants as join
use Rattle.match_pruning.specs.declared.row.Row.{Row}
use Rattle.match_pruning.specs.PartialMatchTree.{PartialMatchTree}
use Rattle.match_stream.specs.RetainedPart.{held_count}
use Rattle.match_pruning.specs.inner.Steps.{held_with, match_joins, kept, State, a_leaf, a_join, a_choice, a_limit, a_chain, step_new, step_state, contents_of}
use Rattle.match_pruning.specs.inner.Needed.{PendingLeftTrees, needed}

-- what its stores hold
abbrev pub held_after : Row → List Bool → State → ℕ
held_after row truths z = held_count (contents_of (step_state row truths z))

-- plus the needed new ones
abbrev pub retained_at : Row → List Bool → List PendingLeftTrees → State → ℕ
retained_at row truths pending_lefts z = held_after row truths z + length (needed row.last pending_lefts (step_new row truths z))

-- the right store admits what is new below it, except for a FOLLOWEDBY
abbrev pub AdmitsRight : Join → Window → ℤ → List PartialMatchTree → Type 0
AdmitsRight join.Then window now new = ⊤
AdmitsRight _ window now new = kept window now new ≡ new

-- each level admits what is new there
abbrev pub AdmitLevels : Window → ℤ → List PartialMatchTree → List PartialMatchTree → List (List PartialMatchTree) → Type 0
AdmitLevels window now first new [] = ⊤
AdmitLevels window now first new (held ∷ levels) =
    (kept window now first ≡ first) × AdmitLevels window now (match_joins join.Repeats (kept window now held) new) new levels

-- each store admits what is new below it
abbrev pub Admits : Row → List Bool → State → Type 0
Admits row truths (a_leaf leaf window) = ⊤
Admits row truths (a_join j l r sides) = Admits row truths l × Admits row truths r
    × (kept sides.left_window row.last (step_new row truths l) ≡ step_new row truths l)
    × AdmitsRight j sides.right_window row.last (step_new row truths r)
Admits row truths (a_choice l r) = Admits row truths l × Admits row truths r
Admits row truths (a_limit part) = Admits row truths part
Admits row truths (a_chain part count window levels) =
    Admits row truths part × AdmitLevels window row.last (map (held_with Single) (step_new row truths part)) (step_new row truths part) levels

-- the retained count of a node exceeds the budget
abbrev pub IsOverAt : Row → List Bool → List PendingLeftTrees → State → ℕ → Type 0
IsOverAt row truths pending_lefts z budget = Admits row truths z → budget < retained_at row truths pending_lefts z
