use Rattle.match_comparisons.proofs.ReferenceLemmas.{same_lead}
use Rattle.match_comparisons.proofs.laws.same_lead.Goals as goal

pub returns : goal.returns
returns c = same_lead c.one_meaning.ensures.one
