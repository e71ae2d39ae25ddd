-- Each position in turn is marked, where it isn't.
use Rattle.std.proofs.Common.{◌<◌, ◌+◌, ℕ, List, length, get_or, set, arith, sym, ap, subst, ◌∙◌}
use Rattle.std.specs.Prelude.{Bool, true, false, Some}
use Rattle.std.proofs.lemmas.Option.{slice_get-get_or}
use Rattle.hunt_engine.specs.inner.Evaluation.{MarksMore}
use Rattle.hunt_engine.proofs.PositionLemmas.{get_number}
use Rattle.hunt_engine.proofs.EvaluateLemmas.{marks_no_more, marks_one_more}
use Rattle.hunt_engine.proofs.evaluation.mark_more.Goals as goal
use Rattle.hunt_engine.proofs.evaluation.mark_more.Goals.{then-not-marks-at+in_ok-push, else-not-marks-at}

pub loop-position-preserved : goal.loop-position-preserved
loop-position-preserved c =
    let own = c.args.own.now in
    let i = c.loop-position.position-index in
    let at = get_or own i 0 in
    let far = c.loop-position.invariant in
    let at_is = get_number own i (omega arith) in
    let below = c.requires i 0 (omega arith) in
    let count = far.count in
    let inside : at < length c.loop-position.marks = omega (arith, below, count) in
    elim c.if-not-marks-at.branch [
      | then-not-marks-at+in_ok-push w ↦
          let next = marks_one_more own i c.args.marks.now c.args.positions.now.items c.loop-position.marks c.loop-position.positions.items far at at_is inside in
          subst (λ (marks : List Bool). MarksMore own (i + 1) c.args.marks.now c.args.positions.now.items marks c.if-not-marks-at.positions.items) (sym w.marks-is)
          (subst (λ (positions : List ℕ). MarksMore own (i + 1) c.args.marks.now c.args.positions.now.items (set c.loop-position.marks at true) positions) (sym (ap (λ v. v.items) w.positions-is ∙ w.in_ok-push.ensures.items)) next)
      | else-not-marks-at w ↦
          let next = marks_no_more own i c.args.marks.now c.args.positions.now.items c.loop-position.marks c.loop-position.positions.items far at at_is
          (slice_get-get_or c.loop-position.marks at false inside ∙ ap Some w.if-not-marks-at.false) in
          subst (λ (marks : List Bool). MarksMore own (i + 1) c.args.marks.now c.args.positions.now.items marks c.if-not-marks-at.positions.items) (sym w.marks-is)
          (subst (λ (positions : List ℕ). MarksMore own (i + 1) c.args.marks.now c.args.positions.now.items c.loop-position.marks positions) (sym (ap (λ v. v.items) w.positions-is)) next)
    ]
