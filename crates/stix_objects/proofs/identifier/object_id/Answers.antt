use Rattle.stix_json.specs.DataOf.{data_of}
use Rattle.stix_objects.proofs.IdentifierLemmas.{identified}
use Rattle.stix_objects.proofs.identifier.object_id.Goals as goal

pub returns : goal.returns
returns c = identified (data_of c.args.object.now) c.in_ok-text_at.field-0.now c.in_ok-text_at.ensures c.identifier_of.result c.identifier_of.ensures.some c.identifier_of.ensures.only
