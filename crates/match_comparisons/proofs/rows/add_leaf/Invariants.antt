use Rattle.std.proofs.Common.{◌≡◌, take, drop, length}
use Rattle.stix_bundles.specs.Objects.{data_in}
use Rattle.pattern_types.specs.PlainLeaf.{plain_leaf}
use Rattle.pattern_types.specs.PlainPattern.{a_leaf}
use Rattle.match_comparisons.specs.inner.Rows.{AddsTruths}
use Rattle.match_comparisons.proofs.rows.add_leaf.Given as goal

-- the rows up to here have the bracket's truth, and those after are as they were
abbrev pub invariant-loop-at : goal.invariant-loop-at
invariant-loop-at l =
    AddsTruths (data_in l.seen.bundle.now) (a_leaf (plain_leaf l.leaf)) (take l.at l.seen.observations.now) (take l.at l.fn.rows) (take l.at l.rows)
    × (drop l.at l.rows ≡ drop l.at l.fn.rows)
    × (length l.rows ≡ length l.seen.observations.now)
