use Rattle.std.proofs.Common.{ℕ, List, take, get_or, sym, subst}
use Rattle.std.proofs.lemmas.List.{take_more}
use Rattle.hunt_engine.specs.inner.Memos.{AddsRoot, InsertsEmpty}
use Rattle.hunt_engine.proofs.MemoLemmas.{opens_more}
use Rattle.hunt_engine.proofs.memoizing.insert_empty.Goals as goal

pub loop-root-preserved : goal.loop-root-preserved
loop-root-preserved c =
    let roots = c.args.roots.now in
    let i = c.loop-root.root-index in
    subst (λ (l : List ℕ). InsertsEmpty l c.args.memo.now c.add.new.self) (sym (take_more roots i 0 c.loop-root-test.true))
    (opens_more (take i roots) (get_or roots i 0) c.args.memo.now c.loop-root.memo c.add.new.self c.loop-root.invariant
    (subst (λ (l : List ℕ). AddsRoot (get_or roots i 0) l c.loop-root.memo c.add.new.self) c.new.ensures c.in_ok-add.ensures))
