use Rattle.stix_ids.proofs.IdLemmas.{text_from_canonical}
use Rattle.stix_ids.proofs.laws.written_reads_back.Goals as goal

pub returns : goal.returns
returns c = λ id text p. text_from_canonical text id p
