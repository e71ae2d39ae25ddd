use Rattle.std.proofs.Common.{◌≡◌}
use Rattle.taxii_index.proofs.hinted_rows.HintedRows.hint_from.Given as goal

abbrev pub invariant-loop-position : goal.invariant-loop-position
invariant-loop-position l = l.self ≡ l.fn.self
