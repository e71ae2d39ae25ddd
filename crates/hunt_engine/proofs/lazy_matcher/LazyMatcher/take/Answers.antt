-- The row at a lazy matcher that is caught up: by its matcher, or by the row single bracket.
use Rattle.std.proofs.Common.{◌≡◌, ◌+◌, [], ◌∷◌, refl, sym, ◌∙◌, ap, subst, arith, length, length-append}
use Rattle.std.specs.Prelude.{Some, map}
use Rattle.std.specs.Option.{option_map}
use Rattle.std.proofs.lemmas.Result.{IfOk-weaker}
use Rattle.match_bindings.specs.BindTree.{tree_of}
use Rattle.match_stream.specs.MatcherState.{MatcherState, MatcherRepresents}
use Rattle.hunt_engine.specs.LazyMatcherState.{LazyMatcherState}
use Rattle.hunt_engine.specs.inner.Following.{CatchesUp, FollowsLastRow, IsSingleBracket, log_with}
use Rattle.hunt_engine.proofs.FollowLemmas.{stands_now, takes_matched, crowds_matched, takes_single_bracket, crowds_single_bracket}
use Rattle.hunt_engine.proofs.lazy_matcher.LazyMatcher.take.Goals as goal

pub returns-in_default-clause-took : goal.returns-in_default-clause-took
returns-in_default-clause-took c = λ p log follows ends.
    let up = subst (λ (f : LazyMatcherState). CatchesUp p c.args.retained_limit log f) (sym c.self.view_is) (c.in_ok-catch_up.ensures p log follows ends) in
    let is = ap (option_map (λ matching. matching.value)) c.in_default.is in
    let f : LazyMatcherState = record { matcher = option_map (λ matching. matching.value) c.self.inside.matcher; seen = c.self.inside.seen } in
    IfOk-weaker c.take_single_bracket.result (λ binds. IsSingleBracket c.args.retained_limit (c.args.row.now.rows + 1) c.args.truths.now (map tree_of binds))
    (λ binds. FollowsLastRow p c.args.retained_limit (log_with c.args.row.now c.args.truths.now log) f (map tree_of binds))
    (λ binds single_bracket. takes_single_bracket p c.args.retained_limit log c.args.row.now c.args.truths.now f (c.args.row.now.rows + 1) (map tree_of binds) up.follows is ends c.requires.continues refl single_bracket.told single_bracket.room)
    c.take_single_bracket.ensures.answers

pub returns-in_default-clause-over_limit : goal.returns-in_default-clause-over_limit
returns-in_default-clause-over_limit c = λ p log follows ends over.
    let up = subst (λ (f : LazyMatcherState). CatchesUp p c.args.retained_limit log f) (sym c.self.view_is) (c.in_ok-catch_up.ensures p log follows ends) in
    let is = ap (option_map (λ matching. matching.value)) c.in_default.is in
    crowds_single_bracket p c.args.retained_limit log c.args.row.now c.args.truths.now (record { matcher = option_map (λ matching. matching.value) c.self.inside.matcher; seen = c.self.inside.seen }) (c.args.row.now.rows + 1)
    up.follows is ends refl (c.take_single_bracket.ensures.over_limit over)

pub take_row-requires-clause-room : goal.take_row-requires-clause-room
take_row-requires-clause-room c = λ _.
    let f = c.requires.follows in
    let up = subst (λ (z : LazyMatcherState). CatchesUp f.0 c.args.retained_limit f.1 z) (sym c.self.view_is) (c.in_ok-catch_up.ensures f.0 f.1 f.2 f.3) in
    let is = ap (option_map (λ matching. matching.value)) c.in-Some.is in
    let value : c.in-Some.matcher.value ≡ c.deref_mut.result.now = cc in
    let now = stands_now f.0 c.args.retained_limit f.1 (record { matcher = option_map (λ matching. matching.value) c.self.inside.matcher; seen = c.self.inside.seen }) c.in-Some.matcher.value up is in
    let rows : c.deref_mut.result.now.rows ≡ length f.1 = (subst (λ (m : MatcherState). MatcherRepresents m f.1) value now.0).rows in
    let many = f.3.rows_are in
    let room = c.requires.room in
    omega (arith, rows, many, room)

pub returns-in-Ok-clause-took : goal.returns-in-Ok-clause-took
returns-in-Ok-clause-took c = λ p log follows ends.
    let up = subst (λ (f : LazyMatcherState). CatchesUp p c.args.retained_limit log f) (sym c.self.view_is) (c.in_ok-catch_up.ensures p log follows ends) in
    let is = ap (option_map (λ matching. matching.value)) c.in-Some.is in
    let value : c.in-Some.matcher.value ≡ c.deref_mut.result.now = cc in
    let f : LazyMatcherState = record { matcher = option_map (λ matching. matching.value) c.self.inside.matcher; seen = c.self.inside.seen } in
    let now = stands_now p c.args.retained_limit log f c.in-Some.matcher.value up is in
    let represents = subst (λ (m : MatcherState). MatcherRepresents m log) value now.0 in
    let answers = c.in-Ok.ensures.answers log represents up.follows.order in
    let many = ends.rows_are in
    takes_matched p c.args.retained_limit log (log_with c.args.row.now c.args.truths.now log) f c.deref_mut.result.now c.take_row.new.matcher (c.args.row.now.rows + 1) (map tree_of c.in-Ok.binds) up.follows (is ∙ ap Some value)
    c.in-Ok.ensures.kept answers (let e : c.args.row.now.rows + 1 ≡ length (log_with c.args.row.now c.args.truths.now log) = omega (arith, many, length-append log (record { first = c.args.row.now.first; last = c.args.row.now.last; truths = c.args.truths.now } ∷ [])) in e)

pub returns-in-Err-clause-over_limit : goal.returns-in-Err-clause-over_limit
returns-in-Err-clause-over_limit c = λ p log follows ends e.
    let up = subst (λ (f : LazyMatcherState). CatchesUp p c.args.retained_limit log f) (sym c.self.view_is) (c.in_ok-catch_up.ensures p log follows ends) in
    let is = ap (option_map (λ matching. matching.value)) c.in-Some.is in
    let value : c.in-Some.matcher.value ≡ c.deref_mut.result.now = cc in
    let f : LazyMatcherState = record { matcher = option_map (λ matching. matching.value) c.self.inside.matcher; seen = c.self.inside.seen } in
    let now = stands_now p c.args.retained_limit log f c.in-Some.matcher.value up is in
    let represents = subst (λ (m : MatcherState). MatcherRepresents m log) value now.0 in
    crowds_matched p c.args.retained_limit log (log_with c.args.row.now c.args.truths.now log) f c.deref_mut.result.now up.follows (is ∙ ap Some value)
    (c.in-Err.ensures.over_limit log represents up.follows.order e)
