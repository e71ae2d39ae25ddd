use Rattle.stix_versions.proofs.OneListLemmas.{versions_once, markings_once}
use Rattle.stix_versions.proofs.laws.one_list.Goals as goal

pub returns-clause-versions : goal.returns-clause-versions
returns-clause-versions c = λ objects first second a b. versions_once objects 0 objects first second a b

pub returns-clause-markings : goal.returns-clause-markings
returns-clause-markings c = λ objects first second a b. markings_once 0 objects first second a b
