use Rattle.stix_bundles.proofs.LookupLemmas.{one_meaning, same_meaning}
use Rattle.stix_bundles.proofs.laws.one_meaning.Goals as goal

pub returns-clause-one : goal.returns-clause-one
returns-clause-one c = one_meaning c.one_identifier.ensures

pub returns-clause-same : goal.returns-clause-same
returns-clause-same c = same_meaning c.one_identifier.ensures
