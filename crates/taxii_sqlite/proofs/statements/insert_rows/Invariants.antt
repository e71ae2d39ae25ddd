-- What was run so far is a step.
use Rattle.std.proofs.Common.{take, Ok}
use Rattle.sqlite.specs.Held.{state}
use Rattle.taxii_sqlite.specs.Statements.{Inserts, InTurn}
use Rattle.taxii_sqlite.specs.Transactions.{IsStep}
use Rattle.taxii_sqlite.proofs.statements.insert_rows.Given as goal

abbrev pub invariant-loop-row : goal.invariant-loop-row
invariant-loop-row g l = IsStep (state g.S.Store) (InTurn (Inserts (state g.S.Store)) (take l.row-index l.rows)) l.initial.transaction.conn l.transaction.conn (Ok tt)
