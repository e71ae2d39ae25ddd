use Rattle.taxii_client.proofs.PullLemmas.{pull_continues}
use Rattle.taxii_client.proofs.pull_laws.pulls_continue.Goals as goal

pub returns-clause-pages : goal.returns-clause-pages
returns-clause-pages g c = pull_continues
