-- What failed commits nothing.
use Rattle.std.proofs.Common.{rules}
use Rattle.taxii_sqlite.proofs.statements.execute.Goals as goal

pub returns-in_err-execute : goal.returns-in_err-execute
returns-in_err-execute g c = record { same_reference = search rules; inside = search rules; unended = search rules; runs = search rules }
