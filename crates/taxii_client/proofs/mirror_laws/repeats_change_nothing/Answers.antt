use Rattle.taxii_client.proofs.MirroredLemmas.{repeat_stays, repeat_out}
use Rattle.taxii_client.proofs.mirror_laws.repeats_change_nothing.Goals as goal

pub returns-clause-stays : goal.returns-clause-stays
returns-clause-stays c = repeat_stays (record { id = c.one_id.ensures; version = c.one_version.ensures.only })

pub returns-clause-taken_out : goal.returns-clause-taken_out
returns-clause-taken_out c = repeat_out (record { id = c.one_id.ensures; version = c.one_version.ensures.only })
