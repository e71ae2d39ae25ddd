use Rattle.taxii_theorems.proofs.EnvelopeLemmas.{read_back}
use Rattle.taxii_theorems.proofs.agreement.pages_are_read_back.Goals as goal

pub returns : goal.returns
returns c = read_back c.envelopes_are_json.ensures
