use Rattle.taxii_client.proofs.MirroredLemmas.{one_more}
use Rattle.taxii_client.proofs.mirror_laws.pages_continue.Goals as goal

pub returns-clause-next : goal.returns-clause-next
returns-clause-next c = one_more
