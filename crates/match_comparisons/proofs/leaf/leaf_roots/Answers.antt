use Rattle.std.proofs.Common.{ℕ}
use Rattle.stix_bundles.specs.Objects.{data_in}
use Rattle.pattern_types.specs.PlainLeaf.{plain_leaf}
use Rattle.match_comparisons.specs.Tests.{HoldsAt}
use Rattle.match_comparisons.proofs.SplitsLemmas.{held_are}
use Rattle.match_comparisons.proofs.leaf.leaf_roots.Goals as goal

pub returns : goal.returns
returns c =
    held_are (λ (at : ℕ). HoldsAt (data_in c.args.bundle.now) at (plain_leaf c.args.leaf.now)) c.args.roots.now c.from_vec.result c.in_ok-split.split c.in_ok-split.ensures c.from_vec.ensures
