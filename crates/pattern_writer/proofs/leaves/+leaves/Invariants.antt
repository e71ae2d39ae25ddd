use Rattle.std.proofs.Common.{take}
use Rattle.pattern_writer.specs.Parts.{AreJoined, AppendsText}
use Rattle.pattern_writer.proofs.LeafTextsLemmas.{IsPart}
use Rattle.pattern_writer.proofs.leaves.+leaves.Given as goal

abbrev pub invariant-write_parts-loop-index : goal.invariant-write_parts-loop-index
invariant-write_parts-loop-index l = AppendsText (AreJoined l.between (IsPart l.least) (take l.index l.parts)) l.fn.out l.out
