use Rattle.std.proofs.Common.{take}
use Rattle.hunt_engine.specs.inner.Memos.{InsertsEmpty}
use Rattle.hunt_engine.proofs.memoizing.insert_empty.Given as goal

abbrev pub invariant-loop-root : goal.invariant-loop-root
invariant-loop-root l = InsertsEmpty (take l.root-index l.roots) l.fn.memo l.memo
