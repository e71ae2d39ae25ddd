-- Where both end at once, its number is one of both.
use Rattle.match_pruning.proofs.earliest_start.End.with.Goals as goal

pub returns-clause-kept : goal.returns-clause-kept
returns-clause-kept c = λ n is _. (c.common.ensures n is).0
