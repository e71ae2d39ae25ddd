use Rattle.taxii_client.proofs.OutcomeLemmas.{one_outcome}
use Rattle.taxii_client.proofs.pull_laws.one_outcome.Goals as goal

pub returns : goal.returns
returns c = one_outcome c.one_outcome.ensures
