-- The parents begin later, so their children do.
use Rattle.std.proofs.Common.{◌<◌, arith}
use Rattle.match_pruning.specs.inner.Heaps.{time_at}
use Rattle.match_pruning.proofs.HeapLemmas.{later_children}
use Rattle.match_pruning.proofs.heap.+later_run.Goals as goal

pub returns-clause-later : goal.returns-clause-later
returns-clause-later t c = λ d.
    let some : 0 < c.args.place = omega (arith, c.if-place-eq0.false) in
    let inside : c.args.place < c.args.heaped = omega (arith, c.if-place-heaped.false) in
    later_children (time_at c.args.held.now d) c.args.heaped c.args.place c.later_run-first.result c.args.time (c.requires.heap d) some inside (c.later_run-first.ensures.later d)
