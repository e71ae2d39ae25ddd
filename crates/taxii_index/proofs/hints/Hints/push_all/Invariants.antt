use Rattle.std.proofs.Common.{List}
use Rattle.taxii_rows.specs.declared.stored_row.StoredRow.{StoredRow}
use Rattle.taxii_index.specs.Hints.{AreTrueOf}
use Rattle.taxii_index.proofs.hints.Hints.push_all.Given as goal

abbrev pub invariant-loop-row : goal.invariant-loop-row
invariant-loop-row l = (all : List StoredRow) → AreTrueOf all l.fn.self.hints.items → AreTrueOf all l.self.hints.items
