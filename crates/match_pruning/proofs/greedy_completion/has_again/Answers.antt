use Rattle.std.proofs.Common.{List, ℕ, sym, subst}
use Rattle.std.specs.List.{Contains}
use Rattle.match_pruning.proofs.greedy_completion.has_again.Goals as goal

pub returns : goal.returns
returns c = λ apart n there in_before.
    c.share_number.ensures.none apart n (subst (λ (z : List ℕ). Contains z n) (sym c.split_at.ensures.back) there)
    (subst (λ (z : List ℕ). Contains z n) (sym c.split_at.ensures.front) in_before)
