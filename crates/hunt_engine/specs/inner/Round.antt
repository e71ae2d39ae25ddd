-- For private clauses: all patterns at one row.
use Rattle.std.specs.Prelude.{◌≡◌, ℕ, ℤ, Option, ◌+◌, ◌<◌, Bool, List, [], Some, map, length, slice_get}
use Rattle.pattern_types.specs.declared.pattern.Pattern.{Pattern}
use Rattle.match_bindings.specs.declared.log_entry.LogEntry.{LogEntry}
use Rattle.match_bindings.specs.declared.bind.Bind.{Bind}
use Rattle.match_bindings.specs.BindTree.{BindTree}
use Rattle.match_bindings.specs.NumberedPattern.{numbered_pattern}
use Rattle.match_stream.specs.Answer.{IsOverLimit}
use Rattle.hunt_engine.specs.declared.found.Hit.{Hit}
use Rattle.hunt_engine.specs.declared.next_row.NextRow.{NextRow}
use Rattle.hunt_engine.specs.declared.brackets.BracketRange.{BracketRange}
use Rattle.hunt_engine.specs.LazyMatcherState.{LazyMatcherState, Follows}
use Rattle.hunt_engine.specs.EngineAnswer.{binds_at, NeverFalls}
use Rattle.hunt_engine.specs.inner.Following.{EndsLogAt, FollowsLastRow, FollowsSome, log_with}
use Rattle.hunt_engine.specs.inner.Table.{part_of}

-- for each log followed up to the row before: the new state follows it with the row, and these
-- bindings end there
abbrev pub FollowsRow : NextRow → ℕ → List Bool → LazyMatcherState → LazyMatcherState → List BindTree → Type 0
FollowsRow row retained_limit truths old new binds = (p : Pattern) (log : List LogEntry) → Follows p retained_limit log old → EndsLogAt log row.rows row.before
    → FollowsLastRow p retained_limit (log_with row truths log) new binds

-- each such log exceeds the limit with the row
abbrev pub Crowds : NextRow → ℕ → List Bool → LazyMatcherState → Type 0
Crowds row retained_limit truths old = (p : Pattern) (log : List LogEntry) → Follows p retained_limit log old → EndsLogAt log row.rows row.before
    → IsOverLimit (numbered_pattern p) (log_with row truths log) retained_limit

-- all states follow some log
abbrev pub AllFollow : ℕ → NextRow → List LazyMatcherState → Type 0
AllFollow retained_limit row lazy_matchers = (position : ℕ) (lazy_matcher : LazyMatcherState) → slice_get lazy_matchers position ≡ Some lazy_matcher → FollowsSome retained_limit row.rows row.before lazy_matcher

-- the patterns at the first i of these indices took the row; the others are unchanged
pub record TookSome (row : NextRow) (retained_limit : ℕ) (bracket_ranges : List BracketRange) (marks : List Bool) (affected : List ℕ) (i : ℕ) (old new : List LazyMatcherState) (found : List Hit) : Type 0 where
  pub count : length new ≡ length old
  pub took : (k position : ℕ) (bracket_range : BracketRange) (before after : LazyMatcherState) → k < i → slice_get affected k ≡ Some position → slice_get bracket_ranges position ≡ Some bracket_range
      → slice_get old position ≡ Some before → slice_get new position ≡ Some after → FollowsRow row retained_limit (part_of bracket_range marks) before after (binds_at position found)
  pub others : (position : ℕ) → ((k : ℕ) → k < i → slice_get affected k ≡ Some position → ⊥)
      → (slice_get new position ≡ slice_get old position) × (binds_at position found ≡ [])
  pub ascend : NeverFalls (map (λ f. f.hunted) found)
  pub early : (k position : ℕ) → slice_get (map (λ f. f.hunted) found) k ≡ Some position → (j : ℕ) × (j < i) × (slice_get affected j ≡ Some position)

-- the pattern at one of these indices exceeds the limit, and those before it don't
pub record CrowdsAt (row : NextRow) (retained_limit : ℕ) (bracket_ranges : List BracketRange) (marks : List Bool) (affected : List ℕ) (old : List LazyMatcherState) (position number named : ℕ) : Type 0 where
  pub at : ℕ
  pub at_is : slice_get affected at ≡ Some position
  pub number_is : number ≡ row.rows + 1
  pub retained_limit_is : named ≡ retained_limit
  pub crowds : (bracket_range : BracketRange) (before : LazyMatcherState) → slice_get bracket_ranges position ≡ Some bracket_range → slice_get old position ≡ Some before
      → Crowds row retained_limit (part_of bracket_range marks) before
  pub now : List LazyMatcherState
  pub found : List Hit
  pub took : TookSome row retained_limit bracket_ranges marks affected at old now found

-- each state still follows its log; its matcher may have caught up
pub record StillFollow (retained_limit rows : ℕ) (last : Option ℤ) (old new : List LazyMatcherState) : Type 0 where
  pub count : length new ≡ length old
  pub follow : (position : ℕ) (before after : LazyMatcherState) (p : Pattern) (log : List LogEntry) → slice_get old position ≡ Some before → slice_get new position ≡ Some after
      → Follows p retained_limit log before → EndsLogAt log rows last → Follows p retained_limit log after

-- a hit of the pattern at an index
abbrev pub found_of : ℕ → Bind → Hit
found_of position bind = record { hunted = position; bind = bind }
