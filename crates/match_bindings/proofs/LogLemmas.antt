-- A log with one more row.
use Rattle.std.proofs.Common.{List, [], ◌∷◌, ◌++◌, ◌≤ℤ◌}
use Rattle.match_bindings.specs.declared.log_entry.LogEntry.{LogEntry}
use Rattle.match_bindings.specs.Log.{LastIsBy, IsInOrder}

-- a row goes at the end of a log whose last time it doesn't precede
pub in_order_more : (log : List LogEntry) (row : LogEntry) → IsInOrder log → row.first ≤ℤ row.last → LastIsBy log row.last → IsInOrder (log ++ row ∷ [])
in_order_more [] row order span after = span
in_order_more (r ∷ []) row order span after = (order, after, span)
in_order_more (r ∷ s ∷ log) row order span after = (order.0, order.1, in_order_more (s ∷ log) row order.2 span after)
