use Rattle.std.proofs.lemmas.List.{take_more, take_all}
use Rattle.pattern_reader.proofs.PathLemmas.{no_steps_yet, steps_more}
use Rattle.pattern_reader.proofs.paths.steps_of.Goals as goal

pub loop-step-init : goal.loop-step-init
loop-step-init c = no_steps_yet c.args.text.now c.args.path.now _ c.no_steps-found.ensures

pub loop-step-preserved : goal.loop-step-preserved
loop-step-preserved c =
    let steps = c.as_slice-step-items.ensures in
    let below = rw steps at c.loop-step-test.true in
    let joined = rw (c.ok_or-next.ensures.value, c.refusal_of.ensures) at c.in_ok-found.ensures in
    steps_more c.args.text.now c.args.path.now c.args.path.now.steps c.loop-step.step-index _ _ _ _ (take_more c.args.path.now.steps c.loop-step.step-index _ below) c.loop-step.invariant (rw steps at c.in_ok-step_of.ensures) (rw steps at joined)

pub returns : goal.returns
returns c = let all = take_all c.loop-step.step-index c.args.path.now.steps (rw c.as_slice-step-items.ensures at c.loop-step-test.false) in rw all at c.loop-step.invariant
