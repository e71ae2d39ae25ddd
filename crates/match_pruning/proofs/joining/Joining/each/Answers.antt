use Rattle.std.proofs.Common.{◌≡◌, ◌<◌, ◌+◌, ◌∷◌, ◌++◌, [], length, ◌∙◌, ap, subst, rules, Err}
use Rattle.match_pruning.specs.declared.stop.Stop.TheVariants as stop
use Rattle.match_pruning.specs.declared.partial_match.PartialMatch.{PartialMatch}
use Rattle.match_pruning.specs.inner.PartialMatches.{partial_match_tree, partial_match_trees}
use Rattle.match_pruning.specs.inner.Steps.{match_join_row}
use Rattle.match_pruning.specs.inner.Needed.{needed}
use Rattle.match_pruning.specs.inner.PendingLefts.{pending_lefts_of}
use Rattle.match_pruning.proofs.SkipIndexLemmas.{row_full, row_grown}
use Rattle.match_pruning.proofs.joining.Joining.each.Goals as goal

pub returns-in_err-pair-clause-over_limit : goal.returns-in_err-pair-clause-over_limit
returns-in_err-pair-clause-over_limit c = λ e.
    let j = c.args.self.now.how in let x = partial_match_tree c.args.first.now in let y = c.second-item.result in let ahead = pending_lefts_of c.args.self.now.join_filter.now.pending_lefts.now in
    let failed : c.pair.result ≡ Err stop.OverLimit = search rules in
    row_full c.args.self.now.join_filter.now.time ahead j x c.args.seconds.now c.loop-second.second-index y c.args.self.now.join_filter.now.budget c.loop-second.out.items c.args.out.now.items c.loop-second-test.true
    (subst (λ (z : PartialMatch). c.args.self.now.join_filter.now.budget < length c.loop-second.out.items + length (needed c.args.self.now.join_filter.now.time ahead (match_join_row j x (partial_match_tree z ∷ [])))) c.second-item.is (c.pair.ensures.over_limit failed))
    c.loop-second.invariant

pub loop-second-preserved : goal.loop-second-preserved
loop-second-preserved c =
    let j = c.args.self.now.how in let x = partial_match_tree c.args.first.now in let y = c.second-item.result in let ahead = pending_lefts_of c.args.self.now.join_filter.now.pending_lefts.now in
    let old = partial_match_trees c.args.out.now.items in
    c.in_ok-pair.ensures.joined
    ∙ ap (λ (z : PartialMatch). partial_match_trees c.loop-second.out.items ++ needed c.args.self.now.join_filter.now.time ahead (match_join_row j x (partial_match_tree z ∷ []))) c.second-item.is
    ∙ row_grown c.args.self.now.join_filter.now.time ahead j x c.args.seconds.now c.loop-second.second-index y old (partial_match_trees c.loop-second.out.items) c.loop-second-test.true c.loop-second.invariant
