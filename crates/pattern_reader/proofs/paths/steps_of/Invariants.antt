use Rattle.std.proofs.Common.{take}
use Rattle.pattern_reader.specs.inner.Analysis.{IsOutcome}
use Rattle.pattern_reader.proofs.PathLemmas.{AreSteps, RefusalUpTo}
use Rattle.pattern_reader.proofs.paths.steps_of.Given as goal

abbrev pub invariant-loop-step : goal.invariant-loop-step
invariant-loop-step l = IsOutcome (AreSteps l.text l.path (take l.step-index l.path.steps)) (RefusalUpTo l.text l.path (take l.step-index l.path.steps)) l.found
