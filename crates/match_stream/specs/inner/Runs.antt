-- For private clauses: a run before and after a row.
use Rattle.std.specs.Prelude.{◌≡◌, ◌≤◌, ◌<◌, ◌+◌, ℕ, ℤ, Bool, Some, List, length}
use Rattle.std.specs.List.Sorted.{IsSortedBy}
use Rattle.match_bindings.specs.BindTree.{BindTree}
use Rattle.match_bindings.specs.Once.{count}
use Rattle.match_bindings.specs.Flat.{comes_before}
use Rattle.match_pruning.specs.declared.row.Row.{Row}
use Rattle.match_stream.specs.declared.run.Run.{Run}
use Rattle.match_pruning.specs.PartialMatchTree.{trees_in}
use Rattle.match_stream.specs.RetainedPart.{held_count}
use Rattle.match_stream.specs.MatcherState.{Falls}
use Rattle.match_pruning.specs.inner.Steps.{step_new, step_state, expired, contents_of}
use Rattle.match_stream.specs.inner.Totals.{Admits}
use Rattle.match_stream.specs.inner.Nodes.{node_state}
use Rattle.match_pruning.specs.inner.UpToOrder.{IsSameUpToOrder}

-- the next row
abbrev pub next_row : ℕ → ℤ → ℤ → Row
next_row rows first last = record { number = rows + 1; first = first; last = last }

-- the retained count after a row: what is stored, and what ended there
abbrev pub retained_after : Run → Row → List Bool → ℕ
retained_after run row truths = length (step_new row truths (node_state run.node)) + held_count (contents_of (step_state row truths (node_state run.node)))

-- the bindings that end at the row, sorted
pub record AreSteps (run : Run) (row : Row) (truths : List Bool) (binds : List BindTree) : Type 0 where
  pub counts : (x : BindTree) → count x binds ≡ count x (trees_in (step_new row truths (node_state run.node)))
  pub sorted : IsSortedBy comes_before binds

-- the run took a row
pub record TookRow (old new : Run) (row : Row) (truths : List Bool) : Type 0 where
  pub rows : new.rows ≡ row.number
  pub last : new.last ≡ Some row.last
  pub node : node_state new.node ≡ step_state row truths (node_state old.node)
  pub retained_limit : new.retained_limit ≡ old.retained_limit
  pub budget : retained_after old row truths ≤ old.retained_limit

-- the retained count after a row exceeds the limit
abbrev pub IsOver : Run → Row → List Bool → Type 0
IsOver run row truths = Admits row truths (node_state run.node) → run.retained_limit < retained_after run row truths

-- what has expired by `now`, which isn't before the last row, is removed; the rest is unchanged up
-- to order
pub record IsCleared (old new : Run) (now : ℤ) : Type 0 where
  pub order : ¬ (Falls old.last now)
  pub node : IsSameUpToOrder (expired now (node_state old.node)) (node_state new.node)
  pub rows : new.rows ≡ old.rows

-- the run took this many rows at which nothing holds
pub record Passed (old new : Run) (rows : ℕ) (last : ℤ) : Type 0 where
  pub rows_are : new.rows ≡ old.rows + rows
  pub last_is : new.last ≡ Some last
  pub node : IsSameUpToOrder (expired last (node_state old.node)) (node_state new.node)
  pub order : ¬ (Falls old.last last)
