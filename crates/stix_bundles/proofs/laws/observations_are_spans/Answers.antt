use Rattle.stix_bundles.proofs.SpansLemmas.{spans}
use Rattle.stix_bundles.proofs.laws.observations_are_spans.Goals as goal

pub returns : goal.returns
returns c = spans c.no_breaks.ensures.observed c.one_timestamp.ensures
