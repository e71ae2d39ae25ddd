use Rattle.match_comparisons.proofs.OneSelectionLemmas.{one_selection}
use Rattle.match_comparisons.proofs.SomeSelectionLemmas.{some_selection}
use Rattle.match_comparisons.proofs.laws.one_selection.Goals as goal

pub returns-clause-one : goal.returns-clause-one
returns-clause-one c = one_selection c.one_meaning.ensures.one

pub returns-clause-some : goal.returns-clause-some
returns-clause-some c = some_selection c.one_meaning.ensures.one
