use Rattle.std.proofs.Common.{take}
use Rattle.std.specs.Prelude.{codes}
use Rattle.pattern_writer.specs.Parts.{AreJoined, AppendsText}
use Rattle.pattern_writer.specs.Constant.{IsConstantText}
use Rattle.pattern_writer.proofs.constants.write_constants.Given as goal

abbrev pub invariant-loop-index : goal.invariant-loop-index
invariant-loop-index l = AppendsText (AreJoined (codes ", ") IsConstantText (take l.index l.constants)) l.fn.out l.out
