use Rattle.stix_bundles.proofs.SomeMeaningLemmas.{some_meaning}
use Rattle.stix_bundles.proofs.laws.some_meaning.Goals as goal

pub returns : goal.returns
returns c = some_meaning c.one_identifier.ensures c.one_modified.ensures
