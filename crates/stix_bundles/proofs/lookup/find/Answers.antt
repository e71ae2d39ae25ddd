use Rattle.stix_bundles.specs.Objects.{data_in}
use Rattle.stix_ids.specs.PartsOf.{id_of}
use Rattle.stix_bundles.proofs.LookupLemmas.{held_is_resolved}
use Rattle.stix_bundles.proofs.lookup.find.Goals as goal

pub returns-in-Ok : goal.returns-in-Ok
returns-in-Ok c = held_is_resolved c.one_identifier.ensures (data_in c.args.bundle.now) c.args.text.now (id_of c.in-Ok.id) c.in-Ok.ensures.ok c.latest.result c.latest.ensures

pub returns-in-Err : goal.returns-in-Err
returns-in-Err c = λ id at reads of. c.in-Err.ensures.named id reads
