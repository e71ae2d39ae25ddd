use Rattle.stix_bundles.proofs.OutlineLemmas.{list_is_row}
use Rattle.stix_bundles.proofs.read.items_of.Goals as goal

pub returns-in-Array-clause-all : goal.returns-in-Array-clause-all
returns-in-Array-clause-all c = λ members list. list_is_row c.args.value c.in-Array.items members c.in-Array.is list
