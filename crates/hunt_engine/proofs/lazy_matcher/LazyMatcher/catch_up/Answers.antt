-- What was missed is passed; where there is no last time nothing was.
use Rattle.std.proofs.Common.{◌≡◌, ap, subst, arith, Option}
use Rattle.std.specs.Prelude.{ℤ}
use Rattle.std.specs.Option.{option_map}
use Rattle.match_stream.specs.MatcherState.{MatcherState, MatcherRepresents}
use Rattle.hunt_engine.specs.inner.Following.{EndsLogAt, CatchesUp}
use Rattle.hunt_engine.proofs.FollowLemmas.{pass_law, no_last}
use Rattle.hunt_engine.proofs.lazy_matcher.LazyMatcher.catch_up.Goals as goal

pub returns-in_default-last : goal.returns-in_default-last
returns-in_default-last c = rw (← c.self.view_is) (λ p log follows ends.
    let is = ap (option_map (λ matching. matching.value)) c.in-Some.is in
    let there = no_last p c.args.retained_limit log (record { matcher = option_map (λ matching. matching.value) c.self.inside.matcher; seen = c.self.inside.seen }) c.in-Some.matcher.value c.args.rows is follows
    (subst (λ (t : Option ℤ). EndsLogAt log c.args.rows t) c.in_default-last.is ends) in
    subst (λ (m : Option MatcherState). CatchesUp p c.args.retained_limit log (record { matcher = m; seen = c.self.inside.seen })) is there)

pub returns-in_ok-pass_rows : goal.returns-in_ok-pass_rows
returns-in_ok-pass_rows c = rw (← c.self.view_is) (λ p log follows ends.
    let is = ap (option_map (λ matching. matching.value)) c.in-Some.is in
    let value : c.in-Some.matcher.value ≡ c.deref_mut.result.now = cc in
    pass_law p c.args.retained_limit log (record { matcher = option_map (λ matching. matching.value) c.self.inside.matcher; seen = c.self.inside.seen }) c.in-Some.matcher.value c.pass_rows.new.matcher c.args.rows c.in-Some-last.last
    follows is (subst (λ (t : Option ℤ). EndsLogAt log c.args.rows t) c.in-Some-last.is ends) (omega arith)
    (λ l q s g. c.in_ok-pass_rows.ensures.represents l q (subst (λ (m : MatcherState). MatcherRepresents m l) value s) g)
    (let k = c.in_ok-pass_rows.ensures.kept in rw value k))
