-- What was made for the pattern follows the empty log.
use Rattle.std.specs.Option.{option_map}
use Rattle.hunt_engine.proofs.FollowLemmas.{follows_first}
use Rattle.hunt_engine.proofs.lazy_matcher.LazyMatcher.new.Goals as goal

pub returns : goal.returns
returns c = follows_first c.test_is_the_rule.ensures c.args.pattern.now c.args.retained_limit (option_map (λ matching. matching.value) c.in_ok-matcher.matcher) c.in_ok-matcher.ensures
