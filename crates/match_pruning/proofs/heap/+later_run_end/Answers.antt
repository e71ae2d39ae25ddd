-- The parents begin later, so their children do.
use Rattle.std.proofs.Common.{◌<◌, arith}
use Rattle.match_pruning.specs.inner.Heaps.{time_at}
use Rattle.match_pruning.proofs.HeapLemmas.{later_children_to}
use Rattle.match_pruning.proofs.heap.+later_run_end.Goals as goal

pub returns-then-end-heaped-clause-later : goal.returns-then-end-heaped-clause-later
returns-then-end-heaped-clause-later t c = λ d i low high.
    let some : 0 < c.args.place = omega (arith, c.if-place-eq0.false) in
    later_children_to (time_at c.args.held.now d) c.args.heaped c.args.place c.later_run_end-end.result c.args.time (c.requires.heap d) some (c.later_run_end-end.ensures.later d) i low
    (omega (arith, high, c.if-end-heaped.true)) high

pub returns-clause-later : goal.returns-clause-later
returns-clause-later t c = λ d i low high.
    let some : 0 < c.args.place = omega (arith, c.if-place-eq0.false) in
    later_children_to (time_at c.args.held.now d) c.args.heaped c.args.place c.later_run_end-end.result c.args.time (c.requires.heap d) some (c.later_run_end-end.ensures.later d) i low high
    (omega (arith, high, c.if-end-heaped.false, c.if-place-heaped.false))
