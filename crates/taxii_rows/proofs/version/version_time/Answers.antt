use Rattle.stix_json.specs.DataOf.{data_of}
use Rattle.taxii_rows.proofs.VersionLemmas.{time_else}
use Rattle.taxii_rows.proofs.version.version_time.Goals as goal

pub returns-in-None : goal.returns-in-None
returns-in-None c = time_else (data_of c.args.object.now) c.timestamp_at-in-None.result c.in-None.ensures c.timestamp_at-in-None.ensures
