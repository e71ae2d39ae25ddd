-- What is new at leaves is the row alone, so it is needed at each of them or at none.
use Rattle.std.proofs.Common.{◌≡◌, [], sym, ◌∙◌, ap}
use Rattle.match_pruning.specs.inner.Steps.{leaves_state, step_new}
use Rattle.match_pruning.specs.inner.Needed.{needed}
use Rattle.match_pruning.specs.inner.PendingLefts.{pending_lefts_of}
use Rattle.match_stream.proofs.NonmatchingLemmas.{nonmatching_new}
use Rattle.match_stream.proofs.LeavesLemmas.{none_retains, all_needed, none_needed}
use Rattle.match_stream.proofs.leaves.Leaves.any_is_needed.Goals as goal
use Rattle.match_stream.proofs.leaves.Leaves.any_is_needed.Goals.{then-not-any_holds-via-then-not-any_holds, then-not-any_holds-via-else-not-any_holds+then-not-is_retained}

pub returns-then-not-any_holds-clause-none : goal.returns-then-not-any_holds-clause-none
returns-then-not-any_holds-clause-none c = λ _.
    let s = c.args.self.now in let row = c.args.row.now in let truths = c.args.truths.now in
    let nothing : step_new row truths (leaves_state s.first s.more s.window) ≡ []
    = elim c.then-not-any_holds.branch [
      | then-not-any_holds-via-then-not-any_holds w ↦ nonmatching_new row truths (leaves_state s.first s.more s.window) (c.any_holds.ensures w.if-not-any_holds.true)
      | then-not-any_holds-via-else-not-any_holds+then-not-is_retained w ↦ none_retains row truths s.first s.more s.window (sym w.is_retained.ensures ∙ w.if-not-is_retained.true)
    ] in
    ap (needed row.last (pending_lefts_of c.args.pending_lefts.now)) nothing

pub returns-clause-all : goal.returns-clause-all
returns-clause-all c = λ is.
    let s = c.args.self.now in
    all_needed c.args.row.now c.args.truths.now (pending_lefts_of c.args.pending_lefts.now) s.window (sym c.in_ok-is.ensures ∙ is) s.first s.more

pub returns-clause-none : goal.returns-clause-none
returns-clause-none c = λ is.
    let s = c.args.self.now in
    none_needed c.args.row.now c.args.truths.now (pending_lefts_of c.args.pending_lefts.now) s.window (sym c.in_ok-is.ensures ∙ is) s.first s.more
