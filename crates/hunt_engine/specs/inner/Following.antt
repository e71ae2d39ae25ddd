-- For private clauses: one pattern at the next row of its log.
use Rattle.std.specs.Prelude.{◌≡◌, ◌≤ℤ◌, ◌≤◌, ℕ, ⊤, ℤ, Bool, true, Option, Some, None, List, [], ◌∷◌, length}
use Rattle.pattern_types.specs.declared.pattern.Pattern.{Pattern}
use Rattle.match_bindings.specs.declared.log_entry.LogEntry.{LogEntry}
use Rattle.match_bindings.specs.NumberedPattern.{numbered_pattern}
use Rattle.match_bindings.specs.BindTree.{BindTree, One}
use Rattle.match_stream.specs.MatcherState.{MatcherState, MatcherRepresents, log_end, with_log_row, Falls}
use Rattle.match_stream.specs.Answer.{IsAnswer}
use Rattle.hunt_engine.specs.declared.next_row.NextRow.{NextRow}
use Rattle.hunt_engine.specs.LazyMatcherState.{LazyMatcherState, Follows}

-- a log has this many rows, and its last row this end
pub record EndsLogAt (log : List LogEntry) (rows : ℕ) (last : Option ℤ) : Type 0 where
  pub rows_are : length log ≡ rows
  pub last_is : log_end log ≡ last

-- it follows some log of this many rows under the limit
abbrev pub FollowsSome : ℕ → ℕ → Option ℤ → LazyMatcherState → Type 0
FollowsSome retained_limit rows last lazy_matcher = (p : Pattern) × (log : List LogEntry) × Follows p retained_limit log lazy_matcher × EndsLogAt log rows last

-- its matcher, if it has one, represents the whole log
abbrev pub IsCaughtUp : List LogEntry → LazyMatcherState → Option MatcherState → Type 0
IsCaughtUp log lazy_matcher None = ⊤
IsCaughtUp log lazy_matcher (Some matcher) = MatcherRepresents matcher log × (lazy_matcher.seen ≡ length log)

pub record CatchesUp (p : Pattern) (retained_limit : ℕ) (log : List LogEntry) (after : LazyMatcherState) : Type 0 where
  pub follows : Follows p retained_limit log after
  pub caught_up : IsCaughtUp log after after.matcher

-- it follows the log to its last row, and these are the bindings that end there
pub record FollowsLastRow (p : Pattern) (retained_limit : ℕ) (log : List LogEntry) (after : LazyMatcherState) (binds : List BindTree) : Type 0 where
  pub follows : Follows p retained_limit log after
  pub answers : IsAnswer (numbered_pattern p) log binds

-- the log with the row
abbrev pub log_with : NextRow → List Bool → List LogEntry → List LogEntry
log_with row truths log = with_log_row log row.first row.last truths

-- the row continues the rows before it in order
pub record ContinuesRows (row : NextRow) : Type 0 where
  pub span : row.first ≤ℤ row.last
  pub order : ¬ (Falls row.before row.last)

-- the bindings of a pattern of one bracket that end at a row
abbrev pub single_bracket_at : ℕ → List Bool → List BindTree
single_bracket_at number (true ∷ truths) = One number ∷ []
single_bracket_at number _ = []

-- these end there, and no more than the limit
pub record IsSingleBracket (retained_limit number : ℕ) (truths : List Bool) (binds : List BindTree) : Type 0 where
  pub told : binds ≡ single_bracket_at number truths
  pub room : length binds ≤ retained_limit
