-- The observable state of one pattern.
use Rattle.std.specs.Prelude.{◌≡◌, ℕ, Option, Some, None, List, ◌++◌, length}
use Rattle.pattern_types.specs.declared.pattern.Pattern.{Pattern}
use Rattle.pattern_types.specs.declared.pattern.Pattern.TheVariants as pattern
use Rattle.pattern_types.specs.declared.leaf.Leaf.{Leaf}
use Rattle.match_bindings.specs.declared.log_entry.LogEntry.{LogEntry}
use Rattle.match_bindings.specs.NumberedPattern.{numbered_pattern}
use Rattle.match_bindings.specs.Log.{IsInOrder}
use Rattle.match_stream.specs.MatcherState.{MatcherState, MatcherRepresents}
use Rattle.match_stream.specs.Answer.{IsWithinLimit}
use Rattle.match_stream.specs.Passing.{AreNonmatching}

pub record LazyMatcherState : Type 0 where
  -- its matcher; a pattern of one bracket needs none
  pub matcher : Option MatcherState
  -- how many rows the matcher has seen
  pub seen : ℕ

-- the matcher represents the first `seen` rows of the log; at the rows after them no bracket holds,
-- so it has only to pass them
pub record LagsBehind (log : List LogEntry) (seen : ℕ) (matcher : MatcherState) : Type 0 where
  pub before : List LogEntry
  pub nonmatching : List LogEntry
  pub log_is : log ≡ before ++ nonmatching
  pub none_holds : AreNonmatching nonmatching
  pub count : seen ≡ length before
  pub represents : MatcherRepresents matcher before

-- it does so for this pattern and limit; a pattern without a matcher is one bracket
abbrev pub MatchesFor : Pattern → ℕ → List LogEntry → ℕ → Option MatcherState → Type 0
MatchesFor p retained_limit log seen None = (leaf : Leaf) × (p ≡ pattern.Leaf leaf)
MatchesFor p retained_limit log seen (Some matcher) = (matcher.pattern ≡ p) × (matcher.retained_limit ≡ retained_limit) × LagsBehind log seen matcher

-- it follows the log of a pattern: the rows are in order, and after the last one no more is
-- retained than the limit
pub record Follows (p : Pattern) (retained_limit : ℕ) (log : List LogEntry) (lazy_matcher : LazyMatcherState) : Type 0 where
  pub order : IsInOrder log
  pub within_limit : IsWithinLimit (numbered_pattern p) log retained_limit
  pub matcher : MatchesFor p retained_limit log lazy_matcher.seen lazy_matcher.matcher
