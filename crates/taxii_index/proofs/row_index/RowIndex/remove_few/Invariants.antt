use Rattle.std.proofs.Common.{take}
use Rattle.taxii_index.specs.Index.{IsIndexOf, IsIndexBut}
use Rattle.taxii_index.proofs.row_index.RowIndex.remove_few.Given as goal

abbrev pub invariant-loop-date : goal.invariant-loop-date
invariant-loop-date l = IsIndexOf l.rows l.fn.self → IsIndexBut (take l.date-index l.dates) l.rows l.self
