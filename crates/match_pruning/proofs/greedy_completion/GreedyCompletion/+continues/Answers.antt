-- What is kept, and what goes on by one thing of the innermost left side.
use Rattle.std.proofs.Common.{ℤ, sym, ◌∙◌, ap}
use Rattle.std.specs.Prelude.{◌&&◌, ◌||◌}
use Rattle.std.specs.List.{list_any}
use Rattle.std.proofs.lemmas.Bool.{and_from}
use Rattle.match_pruning.specs.declared.join.Join.TheVariants as join
use Rattle.match_pruning.specs.PartialMatchTree.{PartialMatchTree}
use Rattle.match_pruning.specs.inner.Retains.{retains}
use Rattle.match_pruning.specs.inner.PartialMatches.{partial_match_trees}
use Rattle.match_pruning.specs.inner.Steps.{may_join, joined_matches}
use Rattle.match_pruning.specs.inner.Needed.{is_needed}
use Rattle.match_pruning.specs.inner.PendingLefts.{pending_lefts_of}
use Rattle.match_pruning.proofs.NeededLemmas.{needed_by, any_of, or_true}
use Rattle.match_pruning.proofs.greedy_completion.GreedyCompletion.+continues.Goals as goal

pub returns-then-is_retained : goal.returns-then-is_retained
returns-then-is_retained t c = λ _ partial_match s.
    let x = c.in-Some.innermost.now in let above = c.in-Some.above.now in
    needed_by c.args.now c.args.pending_lefts.now above x partial_match c.in-Some.ensures.cases.0
    ∙ ap (λ z. z || list_any (λ (h : PartialMatchTree). may_join join.Then h partial_match && is_needed c.args.now (pending_lefts_of above) (joined_matches join.Then h partial_match)) (partial_match_trees x.left.held.items))
    (ap (λ (e : ℤ). retains x.window e c.args.now) s.begins ∙ sym c.is_retained.ensures ∙ c.if-is_retained.true)

pub returns : goal.returns
returns t c = λ yes partial_match s.
    let x = c.in-Some.innermost.now in let above = c.in-Some.above.now in
    let f = λ (h : PartialMatchTree). may_join join.Then h partial_match && is_needed c.args.now (pending_lefts_of above) (joined_matches join.Then h partial_match) in
    let found = c.in_ok-take_last.ensures c.if-not-branch.false partial_match s in
    let wants = c.in_ok-on.ensures yes (joined_matches join.Then found.0 partial_match) found.3 in
    needed_by c.args.now c.args.pending_lefts.now above x partial_match c.in-Some.ensures.cases.0
    ∙ ap (λ z. retains x.window partial_match.earliest c.args.now || z) (any_of f (partial_match_trees x.left.held.items) found.0 found.1 (and_from _ _ found.2 wants))
    ∙ or_true (retains x.window partial_match.earliest c.args.now)
