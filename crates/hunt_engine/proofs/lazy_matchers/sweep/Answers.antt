-- The lazy matcher whose turn it is is caught up.
use Rattle.std.proofs.Common.{get_or, arith}
use Rattle.std.proofs.lemmas.Option.{slice_get-get_or}
use Rattle.hunt_engine.proofs.StepLemmas.{still_set}
use Rattle.hunt_engine.proofs.lazy_matchers.sweep.Goals as goal

pub returns : goal.returns
returns c =
    let position = c.in-Some.position.now in
    still_set c.args.retained_limit c.args.row.now.rows c.args.row.now.before c.args.lazy_matchers.now position (get_or c.args.lazy_matchers.now position c.index-lazy_matchers-at.result) c.catch_up.new.self
    (slice_get-get_or c.args.lazy_matchers.now position c.index-lazy_matchers-at.result (omega arith))
    (λ p log follows ends. (c.in_ok-catch_up.ensures p log follows ends).follows)
