use Rattle.std.proofs.Common.{◌≡◌, ◌<◌, ◌+◌, ◌++◌, Vec, Global, length, Err, rules, sym, ◌∙◌, ap, subst, append-nil}
use Rattle.match_pruning.specs.declared.stop.Stop.TheVariants as stop
use Rattle.match_pruning.specs.declared.partial_match.PartialMatch.{PartialMatch}
use Rattle.match_pruning.specs.inner.PartialMatches.{partial_match_tree, partial_match_trees}
use Rattle.match_pruning.specs.inner.Steps.{match_join_row}
use Rattle.match_pruning.specs.inner.Needed.{needed}
use Rattle.match_pruning.specs.inner.PendingLefts.{pending_lefts_of}
use Rattle.match_pruning.proofs.NeededLemmas.{joins_full, joins_grown}
use Rattle.match_pruning.proofs.EarliestStartLemmas.{row_too_early}
use Rattle.match_pruning.proofs.joining.Joining.rows.Goals as goal
use Rattle.match_pruning.proofs.joining.Joining.rows.Goals.{then-covers+in_ok-row, else-covers}

pub returns-in_err-row-clause-over_limit : goal.returns-in_err-row-clause-over_limit
returns-in_err-row-clause-over_limit c = λ e.
    let ahead = pending_lefts_of c.args.self.now.join_filter.now.pending_lefts.now in let x = c.first-item.result in
    let failed : c.row.result ≡ Err stop.OverLimit = search rules in
    let over = c.row.ensures.over_limit failed in
    joins_full c.args.self.now.join_filter.now.time ahead c.args.self.now.how c.args.firsts.now (partial_match_trees c.args.seconds.now) c.loop-first.first-index x c.args.self.now.join_filter.now.budget c.loop-first.out.items c.args.out.now.items
    c.loop-first-test.true
    (subst (λ (z : PartialMatch). c.args.self.now.join_filter.now.budget < length c.loop-first.out.items + length (needed c.args.self.now.join_filter.now.time ahead (match_join_row c.args.self.now.how (partial_match_tree z) (partial_match_trees c.args.seconds.now)))) c.first-item.is over)
    c.loop-first.invariant

pub loop-first-preserved : goal.loop-first-preserved
loop-first-preserved c =
    let j = c.args.self.now.how in let x = c.first-item.result in let ahead = pending_lefts_of c.args.self.now.join_filter.now.pending_lefts.now in let at = c.loop-first.first-index in
    let firsts = c.args.firsts.now in let ys = partial_match_trees c.args.seconds.now in let old = partial_match_trees c.args.out.now.items in
    let grown = joins_grown c.args.self.now.join_filter.now.time ahead j firsts ys at x old (partial_match_trees c.loop-first.out.items) c.loop-first-test.true c.loop-first.invariant in
    let row = ap (λ (p : PartialMatch). partial_match_trees c.loop-first.out.items ++ needed c.args.self.now.join_filter.now.time ahead (match_join_row j (partial_match_tree p) ys)) c.first-item.is in
    elim c.if-covers.branch [
      | then-covers+in_ok-row w ↦ ap (λ (v : Vec PartialMatch Global). partial_match_trees v.items) w.out-is ∙ w.in_ok-row.ensures.joined ∙ row ∙ grown
      | else-covers w ↦
          ap (λ (v : Vec PartialMatch Global). partial_match_trees v.items) w.out-is ∙ sym (append-nil (partial_match_trees c.loop-first.out.items))
          ∙ ap (λ z. partial_match_trees c.loop-first.out.items ++ z)
          (sym (row_too_early c.args.self.now.join_filter.now.time ahead c.args.self.now.earliest_start.start j (partial_match_tree x) ys (λ q wants. (c.args.self.now.told q wants).covered) (sym c.covers.ensures ∙ w.if-covers.false)))
          ∙ row ∙ grown
    ]
