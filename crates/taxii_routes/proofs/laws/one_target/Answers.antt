use Rattle.taxii_routes.proofs.TargetLemmas.{one_target}
use Rattle.taxii_routes.proofs.laws.one_target.Goals as goal

pub returns-clause-path : goal.returns-clause-path
returns-clause-path c = λ target first second query other p q. (one_target target first second query other p q).0

pub returns-clause-query : goal.returns-clause-query
returns-clause-query c = λ target first second query other p q. (one_target target first second query other p q).1
