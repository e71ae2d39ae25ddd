use Rattle.std.proofs.Common.{◌≡◌, Vec, Global, subst, rules}
use Rattle.std.specs.Prelude.{true}
use Rattle.match_pruning.specs.declared.matching.Neighbors.{Neighbors}
use Rattle.match_pruning.specs.inner.Picks.{HasPerfectMatching}
use Rattle.match_pruning.proofs.matching.Matching.admit.Goals as goal

pub returns-clause-short : goal.returns-clause-short
returns-clause-short c = λ no x picks.
    let short : c.in_ok-short.short ≡ true = search rules in
    c.in_ok-short.ensures.short short x (subst (λ (v : Vec Neighbors Global). HasPerfectMatching v.items x) c.has_hall_violator.ensures.same picks)
