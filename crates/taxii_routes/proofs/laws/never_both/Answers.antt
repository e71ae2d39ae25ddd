use Rattle.taxii_routes.proofs.QueryLemmas.{never_both}
use Rattle.taxii_routes.proofs.laws.never_both.Goals as goal

pub returns : goal.returns
returns c = never_both
