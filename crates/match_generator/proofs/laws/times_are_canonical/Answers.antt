use Rattle.match_generator.proofs.TimeTextLemmas.{canonical}
use Rattle.match_generator.proofs.laws.times_are_canonical.Goals as goal

pub returns-clause-canonical : goal.returns-clause-canonical
returns-clause-canonical c = canonical

pub returns-clause-reads : goal.returns-clause-reads
returns-clause-reads c = λ seconds early. c.written_reads_back.ensures.shortest _ _ (canonical seconds early)
