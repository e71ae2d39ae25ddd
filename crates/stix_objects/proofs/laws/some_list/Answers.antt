use Rattle.stix_objects.proofs.SomeBreaksLemmas.{some_list}
use Rattle.stix_objects.proofs.laws.some_list.Goals as goal

pub returns : goal.returns
returns c = some_list
