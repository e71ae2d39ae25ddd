use Rattle.stix_objects.proofs.IdentifierLemmas.{one_id}
use Rattle.stix_objects.proofs.laws.one_id.Goals as goal

pub returns : goal.returns
returns c = one_id c.one_identifier.ensures
