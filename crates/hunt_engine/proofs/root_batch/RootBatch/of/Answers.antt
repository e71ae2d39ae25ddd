use Rattle.std.specs.Prelude.{map}
use Rattle.std.proofs.lemmas.List.Sorted.{Contains-permutation, IsPermutation-sym}
use Rattle.stix_bundles.specs.Objects.{data_in}
use Rattle.pattern_types.specs.PlainLeaf.{plain_leaf}
use Rattle.hunt_engine.proofs.RootBatchLemmas.{root_batch_moved}
use Rattle.hunt_engine.proofs.root_batch.RootBatch.of.Goals as goal

pub returns-clause-is : goal.returns-clause-is
returns-clause-is c =
    let moved = c.sort_unstable.ensures.permutation in
    root_batch_moved (data_in c.args.bundle.now) (map plain_leaf c.args.index.now) c.add_upcoming.new.self.roots.items c.add_upcoming.new.self.pairs.items c.sort_unstable.new.self.items
    (λ pair. (λ has. Contains-permutation _ _ pair (IsPermutation-sym _ _ moved) has, λ has. Contains-permutation _ _ pair moved has)) c.in_ok-add_upcoming.ensures.is
