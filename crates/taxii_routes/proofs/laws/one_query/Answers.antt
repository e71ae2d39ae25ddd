use Rattle.taxii_routes.proofs.QueryLemmas.{one_query}
use Rattle.taxii_routes.proofs.laws.one_query.Goals as goal

pub returns : goal.returns
returns c = one_query
