use Rattle.std.proofs.Common.{◌≡◌, ℕ, [], length}
use Rattle.std.specs.Prelude.{Some, map, slice_get}
use Rattle.pattern_types.specs.declared.pattern.Pattern.{Pattern}
use Rattle.hunt_engine.specs.LazyMatcherState.{LazyMatcherState, Follows}
use Rattle.hunt_engine.proofs.engine.lazy_matchers_of.Given as goal

abbrev pub invariant-loop-indicator : goal.invariant-loop-indicator
invariant-loop-indicator l = record {
  count : length l.lazy_matchers.items ≡ l.indicator-index;
  each : (position : ℕ) (p : Pattern) (lazy_matcher : LazyMatcherState) → slice_get (map (λ h. h.pattern) l.hunted) position ≡ Some p → slice_get l.lazy_matchers.items position ≡ Some lazy_matcher → Follows p l.retained_limit [] lazy_matcher;
}
