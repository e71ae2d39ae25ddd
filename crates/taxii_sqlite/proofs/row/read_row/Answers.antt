-- Columns that hold a row hold its numbers.
use Rattle.std.proofs.Common.{rules}
use Rattle.taxii_sqlite.proofs.row.read_row.Goals as goal

pub returns-in_err-collection-clause-fault : goal.returns-in_err-collection-clause-fault
returns-in_err-collection-clause-fault c cause fault row holds = c.in_err-collection.ensures.fault cause (search rules) row.collection holds.collection

pub returns-in_err-number-clause-fault : goal.returns-in_err-number-clause-fault
returns-in_err-number-clause-fault c cause fault row holds = c.in_err-number.ensures.fault cause (search rules) row.id.number holds.number
