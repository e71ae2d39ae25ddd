use Rattle.std.proofs.Common.{take, []}
use Rattle.pattern_writer.specs.Parts.{AreJoined, AppendsText}
use Rattle.pattern_writer.specs.Path.{IsStepText}
use Rattle.pattern_writer.proofs.paths.write_steps.Given as goal

abbrev pub invariant-loop-step : goal.invariant-loop-step
invariant-loop-step l = AppendsText (AreJoined [] IsStepText (take l.step-index l.steps)) l.fn.out l.out
