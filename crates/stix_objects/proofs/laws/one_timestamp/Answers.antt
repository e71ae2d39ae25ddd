use Rattle.stix_objects.proofs.TimestampLemmas.{timestamp_once}
use Rattle.stix_objects.proofs.laws.one_timestamp.Goals as goal

pub returns : goal.returns
returns c = timestamp_once c.one_instant.ensures
