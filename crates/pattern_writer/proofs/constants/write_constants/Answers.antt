use Rattle.std.specs.Prelude.{codes}
use Rattle.pattern_writer.specs.Constant.{IsConstantText}
use Rattle.pattern_writer.proofs.AddingLemmas.{adds_next}
use Rattle.pattern_writer.proofs.constants.write_constants.Goals as goal

pub loop-index-preserved : goal.loop-index-preserved
loop-index-preserved c =
    adds_next IsConstantText (codes ", ") c.args.constants.now c.loop-index.index c.index-constants-index.result c.args.out.now c.loop-index.out c.write_between.new.out c.write_constant.new.out
    c.loop-index-test.true c.loop-index.invariant c.in_ok-write_between.ensures (rw c.index-constants-index.is at c.in_ok-write_constant.ensures)
