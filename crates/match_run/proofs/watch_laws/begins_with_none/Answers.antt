use Rattle.match_run.proofs.ReadingLemmas.{reading-start}
use Rattle.match_run.proofs.watch_laws.begins_with_none.Goals as goal

pub returns : goal.returns
returns c = reading-start
