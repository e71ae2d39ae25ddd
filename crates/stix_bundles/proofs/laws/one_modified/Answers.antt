use Rattle.stix_bundles.proofs.LookupLemmas.{modified_once}
use Rattle.stix_bundles.proofs.laws.one_modified.Goals as goal

pub returns : goal.returns
returns c = modified_once c.one_timestamp.ensures
