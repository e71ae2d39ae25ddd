use Rattle.std.proofs.Common.{List, sym, subst}
use Rattle.match_pruning.specs.declared.matching.Neighbors.{Neighbors}
use Rattle.match_pruning.specs.inner.Picks.{HasPerfectMatching}
use Rattle.match_pruning.proofs.matching.Matching.has_hall_violator.Goals as goal

pub returns-clause-short : goal.returns-clause-short
returns-clause-short c = λ short x h.
    c.in_ok-short.ensures short x (subst (λ (z : List Neighbors). HasPerfectMatching z x) (sym c.deref-2.ensures.value) h)
