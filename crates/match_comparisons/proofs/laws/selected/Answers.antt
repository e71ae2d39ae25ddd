use Rattle.match_comparisons.proofs.SelectedLemmas.{selected}
use Rattle.match_comparisons.proofs.laws.selected.Goals as goal

pub returns : goal.returns
returns c = selected c.one_meaning.ensures.one
