use Rattle.hunt_engine.proofs.RowLemmas.{same_log}
use Rattle.hunt_engine.proofs.laws.one_log.Goals as goal

pub returns : goal.returns
returns c = same_log
