use Rattle.stix_bundles.proofs.SomeObservationsLemmas.{some_observations}
use Rattle.stix_bundles.proofs.laws.some_observations.Goals as goal

pub returns : goal.returns
returns c = some_observations (record {
  named = c.no_breaks.ensures.named;
  timed = c.no_breaks.ensures.observed;
  meaning = c.some_meaning.ensures;
})
