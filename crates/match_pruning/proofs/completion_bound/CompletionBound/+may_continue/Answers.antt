-- A greedy completion that is needed goes on by something held on the innermost left side.
use Rattle.std.proofs.Common.{◌≡◌, List, sym, ◌∙◌, subst}
use Rattle.std.specs.Prelude.{true}
use Rattle.match_pruning.specs.declared.join.Join.TheVariants as join
use Rattle.match_pruning.specs.declared.pending_left.PendingLeft.{PendingLeft}
use Rattle.match_pruning.specs.inner.PartialMatches.{partial_match_tree}
use Rattle.match_pruning.specs.inner.Steps.{joined_matches}
use Rattle.match_pruning.specs.inner.Needed.{PendingLeftTrees, is_needed}
use Rattle.match_pruning.specs.inner.PendingLefts.{pending_left_trees, pending_lefts_of}
use Rattle.match_pruning.proofs.NeededLemmas.{pending_lefts_more}
use Rattle.match_pruning.proofs.CompletionBoundLemmas.{needed_by_one}
use Rattle.match_pruning.proofs.completion_bound.CompletionBound.+may_continue.Goals as goal

pub returns-then-not-branch : goal.returns-then-not-branch
returns-then-not-branch t c = λ greedy_completion h wants.
    let now = c.args.now in let x = c.in-Some.innermost.now in let above = c.in-Some.above.now in
    let by_pending_lefts = subst (λ (z : List PendingLeft). is_needed now (pending_lefts_of z) greedy_completion ≡ true) c.in-Some.ensures.cases.0 wants in
    let one = needed_by_one now (pending_left_trees x) (pending_lefts_of above) (partial_match_tree c.args.partial_match.now) greedy_completion c.args.self.now h (sym c.is_retained.ensures ∙ c.if-is_retained.false)
    (subst (λ (z : List PendingLeftTrees). is_needed now z greedy_completion ≡ true) (pending_lefts_more above x) by_pending_lefts) in
    let on = c.in_ok-take.ensures greedy_completion one.0 h one.1 one.2 in
    sym c.if-not-branch.true ∙ on.0

pub returns : goal.returns
returns t c = λ greedy_completion h wants.
    let now = c.args.now in let x = c.in-Some.innermost.now in let above = c.in-Some.above.now in
    let by_pending_lefts = subst (λ (z : List PendingLeft). is_needed now (pending_lefts_of z) greedy_completion ≡ true) c.in-Some.ensures.cases.0 wants in
    let one = needed_by_one now (pending_left_trees x) (pending_lefts_of above) (partial_match_tree c.args.partial_match.now) greedy_completion c.args.self.now h (sym c.is_retained.ensures ∙ c.if-is_retained.false)
    (subst (λ (z : List PendingLeftTrees). is_needed now z greedy_completion ≡ true) (pending_lefts_more above x) by_pending_lefts) in
    let on = c.in_ok-take.ensures greedy_completion one.0 h one.1 one.2 in
    c.in_ok-may.ensures (joined_matches join.Then one.0 greedy_completion) on.1 one.3
