-- By something that begins before the sequences.
use Rattle.std.proofs.Common.{◌≡◌, ◌≤ℤ◌, ℤ, List, sym, ◌∙◌, subst}
use Rattle.std.specs.Prelude.{true}
use Rattle.std.proofs.lemmas.Bool.{and_parts}
use Rattle.match_pruning.specs.declared.matching.Neighbors.{Neighbors}
use Rattle.match_pruning.specs.inner.Picks.{HasPerfectMatching}
use Rattle.match_pruning.specs.inner.PartialMatches.{partial_match_tree}
use Rattle.match_pruning.specs.inner.CompletionBounds.{may_precede}
use Rattle.match_pruning.proofs.PicksLemmas.{none_picked}
use Rattle.match_pruning.proofs.CompletionBoundLemmas.{continues, held_span, join_precedes}
use Rattle.match_pruning.proofs.completion_bound.CompletionBound.lower_to.Goals as goal

pub returns : goal.returns
returns c = λ before greedy_completion left same h there may bound.
    let p = partial_match_tree c.args.partial_match.now in let began = c.in_ok-record_candidates.ensures.earliest in
    continues p before _ greedy_completion left h may (held_span c.args.store.now.held.items left there) (subst (λ (t : ℤ). left.earliest ≤ℤ t) (sym began) bound) (λ e.
    (c.in_ok-record_candidates.ensures.noted left greedy_completion.tree there (subst (λ (t : ℤ). may_precede left t p ≡ true) same (join_precedes p before greedy_completion left h may)) (e ∙ began)
    (and_parts _ _ may).1 (subst (λ (z : List Neighbors). HasPerfectMatching z greedy_completion.tree) (sym c.new.ensures) (none_picked greedy_completion.tree))).1)
