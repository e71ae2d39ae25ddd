use Rattle.stix_times.proofs.LawLemmas.{one_instant}
use Rattle.stix_times.proofs.laws.one_instant.Goals as goal

pub returns : goal.returns
returns c = one_instant
