use Rattle.match_comparisons.proofs.TakenLemmas.{taken_before, taken_whole}
use Rattle.match_comparisons.proofs.laws.taken_first.Goals as goal

pub returns-clause-before : goal.returns-clause-before
returns-clause-before c = taken_before

pub returns-clause-whole : goal.returns-clause-whole
returns-clause-whole c = taken_whole
