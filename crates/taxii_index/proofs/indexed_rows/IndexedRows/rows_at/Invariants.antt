use Rattle.std.proofs.Common.{◌≡◌, map, take, filter_map}
use Rattle.taxii_rows.specs.Identity.{is_row_of}
use Rattle.taxii_index.specs.Index.{row_where}
use Rattle.taxii_index.proofs.indexed_rows.IndexedRows.rows_at.Given as goal

abbrev pub invariant-loop-date : goal.invariant-loop-date
invariant-loop-date l = map (λ row. row.now) l.found.items ≡ filter_map (row_where (is_row_of l.collection l.id) l.self) (take l.date-index l.dates)
