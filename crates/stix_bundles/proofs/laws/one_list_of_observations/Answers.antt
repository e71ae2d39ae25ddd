use Rattle.stix_bundles.proofs.OneObservationsLemmas.{observations_once}
use Rattle.stix_bundles.proofs.laws.one_list_of_observations.Goals as goal

pub returns : goal.returns
returns c = observations_once (record { id = c.one_id.ensures; timestamp = c.one_timestamp.ensures; meaning = c.one_meaning.ensures.one })
