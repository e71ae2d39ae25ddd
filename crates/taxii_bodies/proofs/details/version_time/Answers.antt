use Rattle.std.proofs.Common.{inl}
use Rattle.stix_json.specs.DataOf.{data_of}
use Rattle.taxii_rows.proofs.VersionLemmas.{time_else}
use Rattle.taxii_bodies.proofs.DetailLemmas.{whole_time, whole_where_found}
use Rattle.taxii_bodies.proofs.details.version_time.Goals as goal

pub returns-in-Some-clause-whole : goal.returns-in-Some-clause-whole
returns-in-Some-clause-whole c = whole_time (data_of c.args.object.now) c.in-Some.modified (inl c.in-Some.ensures)

pub returns-in-None-clause-found : goal.returns-in-None-clause-found
returns-in-None-clause-found c =
    time_else (data_of c.args.object.now) c.timestamp_at-in-None.result c.in-None.ensures c.timestamp_at-in-None.ensures

pub returns-in-None-clause-whole : goal.returns-in-None-clause-whole
returns-in-None-clause-whole c =
    whole_where_found (data_of c.args.object.now) c.timestamp_at-in-None.result
    (time_else (data_of c.args.object.now) c.timestamp_at-in-None.result c.in-None.ensures c.timestamp_at-in-None.ensures)
