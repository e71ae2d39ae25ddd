use Rattle.stix_ids.proofs.IdLemmas.{one_identifier}
use Rattle.stix_ids.proofs.laws.one_identifier.Goals as goal

pub returns : goal.returns
returns c = one_identifier
