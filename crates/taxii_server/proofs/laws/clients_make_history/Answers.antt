use Rattle.taxii_server.proofs.ClientsLemmas.{clients_served}
use Rattle.taxii_server.proofs.laws.clients_make_history.Goals as goal

pub returns : goal.returns
returns g c view config before after clients have = clients_served view config before after clients have
