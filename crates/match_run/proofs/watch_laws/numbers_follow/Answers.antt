use Rattle.match_run.proofs.ReadingLemmas.{numbers}
use Rattle.match_run.proofs.watch_laws.numbers_follow.Goals as goal

pub returns : goal.returns
returns c = numbers
