use Rattle.std.proofs.Common.{ℕ, List, subst}
use Rattle.std.specs.Prelude.{map}
use Rattle.stix_bundles.specs.Objects.{data_in}
use Rattle.pattern_types.specs.declared.leaf.Leaf.{Leaf}
use Rattle.pattern_types.specs.PlainLeaf.{plain_leaf}
use Rattle.hunt_engine.specs.inner.Memos.{InsertsEmpty}
use Rattle.hunt_engine.specs.inner.RootBatches.{IsRootBatch, AddsMatching}
use Rattle.hunt_engine.proofs.RootBatchLemmas.{right_learnt}
use Rattle.hunt_engine.proofs.memoizing.memoize_batch.Goals as goal

pub returns-clause-right : goal.returns-clause-right
returns-clause-right c =
    let objects = data_in c.args.bundle.now in
    let brackets = map plain_leaf (map (λ leaf. leaf.now) c.args.brackets.now.leaves.items) in
    let root_batch = c.in_ok-root_batch.root_batch in
    right_learnt objects brackets root_batch.roots.items root_batch.pairs.items c.args.memo.now c.insert_empty.new.memo c.test_brackets.new.memo c.requires.right
    (subst (λ (l : List Leaf). IsRootBatch objects (map plain_leaf l) root_batch.roots.items root_batch.pairs.items) c.requires.index c.in_ok-root_batch.ensures.is)
    (subst (λ (l : List ℕ). InsertsEmpty l c.args.memo.now c.insert_empty.new.memo) c.as_slice.ensures.value c.in_ok-insert_empty.ensures)
    (subst (λ (l : List (ℕ × ℕ)). AddsMatching objects brackets l c.insert_empty.new.memo c.test_brackets.new.memo) c.as_slice-2.ensures.value c.in_ok-test_brackets.ensures)
