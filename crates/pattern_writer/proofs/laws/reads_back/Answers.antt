use Rattle.pattern_writer.proofs.SpellingLemmas.{reads_back, only_too_long}
use Rattle.pattern_writer.proofs.laws.reads_back.Goals as goal

pub returns-clause-back : goal.returns-clause-back
returns-clause-back c = reads_back

pub returns-clause-long : goal.returns-clause-long
returns-clause-long c = only_too_long
