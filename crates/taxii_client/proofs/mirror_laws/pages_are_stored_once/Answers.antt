use Rattle.taxii_client.proofs.MirroredLemmas.{all_present, grows_once}
use Rattle.taxii_client.proofs.mirror_laws.pages_are_stored_once.Goals as goal

pub returns-clause-present : goal.returns-clause-present
returns-clause-present c = all_present (record { id = c.one_id.ensures; version = c.one_version.ensures.only })

pub returns-clause-once : goal.returns-clause-once
returns-clause-once c = grows_once
