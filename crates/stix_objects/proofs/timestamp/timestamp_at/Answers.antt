use Rattle.stix_json.specs.DataOf.{data_of}
use Rattle.stix_objects.specs.Properties.{IsTimestampAt}
use Rattle.stix_objects.proofs.TimestampLemmas.{found_exactly}
use Rattle.stix_objects.proofs.timestamp.timestamp_at.Goals as goal

pub returns : goal.returns
returns c = found_exactly (IsTimestampAt c.args.precision c.args.name.now (data_of c.args.object.now)) c.instant_at.result c.instant_at.ensures.there c.instant_at.ensures.only
