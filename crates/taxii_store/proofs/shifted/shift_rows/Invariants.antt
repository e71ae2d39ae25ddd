use Rattle.std.proofs.Common.{◌≡◌, ◌++◌, take, drop, map}
use Rattle.taxii_store.specs.inner.Moving.{shifted}
use Rattle.taxii_store.proofs.shifted.shift_rows.Given as goal

abbrev pub invariant-loop-row : goal.invariant-loop-row
invariant-loop-row l =
    l.row-items ≡ map (shifted l.shift) (take l.row-index l.fn.rows.items) ++ drop l.row-index l.fn.rows.items
