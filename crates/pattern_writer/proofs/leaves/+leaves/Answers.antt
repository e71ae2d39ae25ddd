use Rattle.std.proofs.lemmas.List.{take_all}
use Rattle.pattern_writer.proofs.AddingLemmas.{adds_next}
use Rattle.pattern_writer.proofs.LeafTextsLemmas.{IsPart, adds_parts, ok_all, ok_any}
use Rattle.pattern_writer.proofs.leaves.+leaves.Goals as goal

pub write_leaf-returns-in-All : goal.write_leaf-returns-in-All
write_leaf-returns-in-All t c =
    rw c.in-All.is (ok_all c.write_parts.result c.in-All.parts c.args.out.now c.write_parts.new.out (rw c.as_slice.ensures at c.write_parts.ensures))

pub write_leaf-returns-in-Any : goal.write_leaf-returns-in-Any
write_leaf-returns-in-Any t c =
    rw c.in-Any.is (ok_any c.write_parts-in-Any.result c.in-Any.parts c.args.out.now c.write_parts-in-Any.new.out (rw c.as_slice-in-Any.ensures at c.write_parts-in-Any.ensures))

pub write_parts-loop-index-preserved : goal.write_parts-loop-index-preserved
write_parts-loop-index-preserved t c =
    adds_next (IsPart c.args.least) c.args.between.now c.args.parts.now c.loop-index.index c.index-parts-index.result c.args.out.now c.loop-index.out c.write_between.new.out c.write_part.new.out
    c.loop-index-test.true c.loop-index.invariant c.in_ok-write_between.ensures (rw c.index-parts-index.is at c.in_ok-write_part.ensures)

pub write_parts-returns : goal.write_parts-returns
write_parts-returns t c =
    let all = take_all c.loop-index.index c.args.parts.now c.loop-index-test.false in
    adds_parts c.args.least c.args.between.now c.args.parts.now c.args.out.now c.loop-index.out (rw all at c.loop-index.invariant)
