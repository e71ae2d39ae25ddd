-- A number in common.
use Rattle.std.proofs.Common.{subst, List, ℕ}
use Rattle.std.specs.List.{Contains}
use Rattle.match_pruning.proofs.SkipIndexLemmas.{shared_early}
use Rattle.match_pruning.proofs.query.Query.excludes.Goals as goal

pub returns-else-is_late : goal.returns-else-is_late
returns-else-is_late c = λ shared second common first query.
    let found = c.share_number.ensures.some shared in
    shared_early c.args.self.now.earliest_start.start c.args.self.now.join first second found.0
    (query.binds found.0 (subst (λ (z : List ℕ). Contains z found.0) c.deref.ensures.value found.1)) (common.binds found.0 found.2)
