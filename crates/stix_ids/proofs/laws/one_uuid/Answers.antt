use Rattle.stix_ids.proofs.UuidLemmas.{one_number}
use Rattle.stix_ids.proofs.laws.one_uuid.Goals as goal

pub returns : goal.returns
returns c = one_number
