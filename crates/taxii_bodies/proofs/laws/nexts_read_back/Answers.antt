use Rattle.taxii_bodies.proofs.NextLemmas.{next_reads}
use Rattle.taxii_bodies.proofs.laws.nexts_read_back.Goals as goal

pub returns : goal.returns
returns c = next_reads
