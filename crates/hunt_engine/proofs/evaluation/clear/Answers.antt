-- Each mark off in turn.
use Rattle.std.proofs.Common.{get_or, arith}
use Rattle.std.proofs.lemmas.List.Elements.{Contains-get_or}
use Rattle.std.proofs.lemmas.Option.{slice_get_within}
use Rattle.hunt_engine.proofs.PositionLemmas.{get_number}
use Rattle.hunt_engine.proofs.StepLemmas.{clear_next, all_clear}
use Rattle.hunt_engine.proofs.evaluation.clear.Goals as goal

pub bounds-marks-position : goal.bounds-marks-position
bounds-marks-position c =
    let at = get_or c.args.positions.now c.loop-position.position-index 0 in
    let marked = (c.requires.marked at).1 (Contains-get_or c.args.positions.now c.loop-position.position-index 0 (omega arith)) in
    let inside = slice_get_within c.args.marks.now at _ marked in
    let count = c.loop-position.invariant.count in
    omega (arith, inside, count)

pub loop-position-preserved : goal.loop-position-preserved
loop-position-preserved c =
    let at = get_or c.args.positions.now c.loop-position.position-index 0 in
    let marked = (c.requires.marked at).1 (Contains-get_or c.args.positions.now c.loop-position.position-index 0 (omega arith)) in
    let inside = slice_get_within c.args.marks.now at _ marked in
    let count = c.loop-position.invariant.count in
    clear_next c.args.positions.now c.loop-position.position-index c.args.marks.now c.loop-position.marks c.loop-position.invariant at (get_number c.args.positions.now c.loop-position.position-index (omega arith))
    (omega (arith, inside, count))

pub returns-clause-clear : goal.returns-clause-clear
returns-clause-clear c = all_clear c.args.positions.now c.loop-position.position-index c.args.marks.now c.loop-position.marks c.loop-position.invariant (omega arith) (λ at mark. (c.requires.marked at).0 mark)
