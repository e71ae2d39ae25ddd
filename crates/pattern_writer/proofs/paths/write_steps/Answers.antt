use Rattle.pattern_writer.specs.Path.{IsStepText}
use Rattle.pattern_writer.proofs.AddingLemmas.{adds_next_bare}
use Rattle.pattern_writer.proofs.paths.write_steps.Goals as goal

pub loop-step-preserved : goal.loop-step-preserved
loop-step-preserved c = adds_next_bare IsStepText c.args.steps.now c.loop-step.step-index _ _ _ _ c.loop-step-test.true c.loop-step.invariant (rw c.step-item.is at c.in_ok-write_step.ensures)
