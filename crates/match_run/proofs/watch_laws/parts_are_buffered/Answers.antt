use Rattle.match_run.proofs.BufferedLemmas.{way-none, way-stopped}
use Rattle.match_run.proofs.watch_laws.parts_are_buffered.Goals as goal

pub returns-clause-none : goal.returns-clause-none
returns-clause-none c = way-none

pub returns-clause-prefix : goal.returns-clause-prefix
returns-clause-prefix c = way-stopped
