-- What was run so far is a step.
use Rattle.std.proofs.Common.{take, Ok}
use Rattle.sqlite.specs.Held.{state}
use Rattle.taxii_sqlite.specs.Statements.{DeletesRow, InTurn}
use Rattle.taxii_sqlite.specs.Transactions.{IsStep}
use Rattle.taxii_sqlite.proofs.statements.delete_rows.Given as goal

abbrev pub invariant-loop-date : goal.invariant-loop-date
invariant-loop-date g l = IsStep (state g.S.Store) (InTurn (DeletesRow (state g.S.Store)) (take l.date-index l.dates)) l.initial.transaction.conn l.transaction.conn (Ok tt)
