use Rattle.match_bindings.proofs.FlatLemmas.{first_before}
use Rattle.match_bindings.proofs.laws.ascending_lists_are_ordered.Goals as goal

pub returns : goal.returns
returns c = first_before
