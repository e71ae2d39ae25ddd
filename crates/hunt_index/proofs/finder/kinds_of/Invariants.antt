use Rattle.std.proofs.Common.{◌≡◌, ℕ, ◌<◌, Some, slice_get}
use Rattle.std.specs.Prelude.{All, Contains}
use Rattle.hunt_index.specs.inner.Indexed.{IsPathEntryOfKind}
use Rattle.hunt_index.specs.declared.index_key.IndexKey.{IndexKey}
use Rattle.hunt_index.proofs.finder.kinds_of.Given as goal

abbrev pub invariant-loop-number : goal.invariant-loop-number
invariant-loop-number l = ((at : ℕ) (path : IndexKey) → at < l.number → slice_get l.paths at ≡ Some path → Contains l.kinds.items (path.kind, at))
    × All (IsPathEntryOfKind l.paths) l.kinds.items
