use Rattle.taxii_routes.proofs.RouteLemmas.{one_route}
use Rattle.taxii_routes.proofs.laws.one_route.Goals as goal

pub returns : goal.returns
returns c = one_route
