use Rattle.std.proofs.Common.{◌≡◌, ◌++◌}
use Rattle.taxii_index.proofs.indexed_rows.IndexedRows.push_all.Given as goal

abbrev pub invariant-loop-row : goal.invariant-loop-row
invariant-loop-row l = (l.fn.rows.items ≡ l.yielded ++ l.row-iterator.rest.items) × (l.self ≡ l.fn.self ++ l.yielded)
