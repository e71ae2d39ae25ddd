-- The observable state of a matcher, and the log that it represents.
use Rattle.std.specs.Prelude.{◌≡◌, ℕ, ℤ, ◌<ℤ◌, Bool, Option, Some, None, List, [], ◌∷◌, ◌++◌, length}
use Rattle.match_bindings.specs.declared.log_entry.LogEntry.{LogEntry}
use Rattle.match_bindings.specs.NumberedPattern.{numbered_pattern}
use Rattle.pattern_types.specs.declared.pattern.Pattern.{Pattern}
use Rattle.match_stream.specs.declared.ending.Ending.{Ending}
use Rattle.match_pruning.specs.PartialMatchTree.{PartialMatchTree}
use Rattle.match_stream.specs.RetainedPart.{IsRetainedPart}

pub record MatcherState : Type 0 where
  -- the pattern that it matches
  pub pattern : Pattern
  -- how many partial matches it may retain
  pub retained_limit : ℕ
  -- how it ended, if it did
  pub ended : Option Ending
  -- how many rows it took
  pub rows : ℕ
  -- the end of the last row
  pub last : Option ℤ
  -- what its stores hold, in the order of stores_of
  pub contents : List (List PartialMatchTree)

-- the end of the last row
abbrev pub log_end : List LogEntry → Option ℤ
log_end [] = None
log_end (row ∷ []) = Some row.last
log_end (row ∷ next ∷ rows) = log_end (next ∷ rows)

-- a matcher that hasn't ended represents a log: its stores hold exactly the retained part
pub record MatcherRepresents (state : MatcherState) (log : List LogEntry) : Type 0 where
  pub runs : state.ended ≡ None
  pub rows : state.rows ≡ length log
  pub last : state.last ≡ log_end log
  pub retained : IsRetainedPart (numbered_pattern state.pattern) log state.contents

-- a log with one more row
abbrev pub with_log_row : List LogEntry → ℤ → ℤ → List Bool → List LogEntry
with_log_row log first last truths = log ++ record { first = first; last = last; truths = truths } ∷ []

-- a row ends earlier than the row before it
abbrev pub Falls : Option ℤ → ℤ → Type 0
Falls None now = ⊥
Falls (Some last) now = now <ℤ last
