use Rattle.match_run.proofs.ReadingLemmas.{comes-first}
use Rattle.match_run.proofs.watch_laws.read_bundles_come_first.Goals as goal

pub returns : goal.returns
returns c first left began reader bundles far = comes-first first left began reader bundles far
