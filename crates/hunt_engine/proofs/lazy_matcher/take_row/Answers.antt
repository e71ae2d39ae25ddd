-- The matcher's own word of a over limit row.
use Rattle.std.proofs.Common.{ℕ, subst}
use Rattle.match_bindings.specs.NumberedPattern.{numbered_pattern}
use Rattle.match_stream.specs.Answer.{IsOverLimit}
use Rattle.hunt_engine.specs.inner.Following.{log_with}
use Rattle.hunt_engine.proofs.lazy_matcher.take_row.Goals as goal

pub returns-in-Err-Stopped-OverLimit-clause-over_limit : goal.returns-in-Err-Stopped-OverLimit-clause-over_limit
returns-in-Err-Stopped-OverLimit-clause-over_limit c = λ log represents order _.
    let k = c.in-Err-Stopped-OverLimit.ensures.over_limit log represents order c.in-Err-Stopped-OverLimit.field-0-0-0 c.in-Err-Stopped-OverLimit.field-0-0-1 (cc) in
    subst (λ (n : ℕ). IsOverLimit (numbered_pattern c.args.matcher.now.pattern) (log_with c.args.row.now c.args.truths.now log) n) k.retained_limit_is k.over_limit
