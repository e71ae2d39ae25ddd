-- What is answered was asked of an open file.
use Rattle.taxii_sqlite.proofs.ClosedByDiskLemmas.{no_next, no_watermark, none_added, none_removed}
use Rattle.taxii_sqlite.proofs.laws.closed_by_disk_answers_nothing.Goals as goal

pub returns-clause-next : goal.returns-clause-next
returns-clause-next g c = no_next

pub returns-clause-watermark : goal.returns-clause-watermark
returns-clause-watermark g c = no_watermark

pub returns-clause-added : goal.returns-clause-added
returns-clause-added g c = none_added

pub returns-clause-removed : goal.returns-clause-removed
returns-clause-removed g c = none_removed
