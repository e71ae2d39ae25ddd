-- The observable state of a matcher, and its invariant.
use Rattle.std.specs.Prelude.{◌≡◌, true, ◌||◌, is_some}
use Rattle.match_bindings.specs.Bounds.{no_bounds}
use Rattle.match_bindings.specs.NumberedPattern.{numbered_pattern}
use Rattle.match_stream.specs.declared.matcher.Matcher.TheInside.{Inside}
use Rattle.match_stream.specs.MatcherState.{MatcherState}
use Rattle.match_pruning.specs.inner.Steps.{contents_of}
use Rattle.match_stream.specs.inner.Nodes.{node_state}
use Rattle.match_stream.specs.inner.Shape.{state_fits}

-- a matcher as plain data
abbrev pub observable_state : Inside → MatcherState
observable_state matcher = record {
  pattern = matcher.pattern.now;
  retained_limit = matcher.run.retained_limit;
  ended = matcher.ended;
  rows = matcher.run.rows;
  last = matcher.run.last;
  contents = contents_of (node_state matcher.run.node);
}

-- it has ended, or its nodes fit its pattern
abbrev pub IsMade : Inside → Type 0
IsMade matcher = (is_some matcher.ended || state_fits no_bounds (numbered_pattern matcher.pattern.now) (node_state matcher.run.node)) ≡ true
