use Rattle.std.proofs.Common.{ℕ, List, [], ◌∷◌, ◌++◌, sym, subst}
use Rattle.std.specs.Prelude.{map}
use Rattle.stix_bundles.specs.Objects.{data_in}
use Rattle.pattern_types.specs.PlainLeaf.{plain_leaf}
use Rattle.hunt_index.specs.Candidates.{AreCandidates}
use Rattle.hunt_engine.specs.inner.RootBatches.{IsRootBatch}
use Rattle.hunt_engine.proofs.RootBatchLemmas.{root_batch_more}
use Rattle.hunt_engine.proofs.root_batch.RootBatch.add.Goals as goal

pub returns-clause-is : goal.returns-clause-is
returns-clause-is c =
    let objects = data_in c.args.bundle.now in
    let brackets = map plain_leaf c.args.index.now in
    let root_batch = c.args.self.now in
    let root = c.args.root in
    subst (λ (roots : List ℕ). IsRootBatch objects brackets roots c.add_pairs.new.pairs.items) (sym c.in_ok-push.ensures.items)
    (subst (λ (pairs : List (ℕ × ℕ)). IsRootBatch objects brackets (root_batch.roots.items ++ root ∷ []) pairs) (sym c.in_ok-add_pairs.ensures)
    (root_batch_more objects brackets root_batch.roots.items root_batch.pairs.items root c.as_slice.result.now c.requires
    (subst (λ (positions : List ℕ). AreCandidates objects (root ∷ []) brackets positions) (sym c.as_slice.ensures) c.in_ok-positions.ensures)))
