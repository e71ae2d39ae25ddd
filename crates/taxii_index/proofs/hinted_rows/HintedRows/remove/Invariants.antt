use Rattle.std.proofs.Common.{◌≡◌}
use Rattle.taxii_index.proofs.hinted_rows.HintedRows.remove.Given as goal

abbrev pub invariant-loop-date : goal.invariant-loop-date
invariant-loop-date l = l.self ≡ l.fn.self
