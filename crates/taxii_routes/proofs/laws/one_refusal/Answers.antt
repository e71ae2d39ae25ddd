use Rattle.taxii_routes.proofs.QueryLemmas.{one_refusal}
use Rattle.taxii_routes.proofs.laws.one_refusal.Goals as goal

pub returns : goal.returns
returns c = one_refusal
