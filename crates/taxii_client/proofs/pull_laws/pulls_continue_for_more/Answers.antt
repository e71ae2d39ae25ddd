use Rattle.taxii_client.proofs.PullLemmas.{all_have_more}
use Rattle.taxii_client.proofs.pull_laws.pulls_continue_for_more.Goals as goal

pub returns : goal.returns
returns g c = all_have_more
