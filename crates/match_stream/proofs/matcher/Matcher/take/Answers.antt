-- The law of a row at the log that the matcher stands for.
use Rattle.std.proofs.Common.{ℤ, ◌≡◌, ◌+◌, ◌≤◌, ◌≤ℤ◌, List, length, sym, ◌∙◌, ap, subst, arith, rules}
use Rattle.std.specs.Prelude.{Bool, Option, map}
use Rattle.match_bindings.specs.declared.bind.Bind.{Bind}
use Rattle.match_bindings.specs.declared.log_entry.LogEntry.{LogEntry}
use Rattle.match_bindings.specs.Bounds.{no_bounds}
use Rattle.match_bindings.specs.NumberedPattern.{numbered_pattern}
use Rattle.match_bindings.specs.BindTree.{tree_of}
use Rattle.match_bindings.specs.Log.{IsInOrder}
use Rattle.match_bindings.proofs.LogLemmas.{in_order_more}
use Rattle.match_stream.specs.declared.matcher.Matcher.TheInside.{Inside}
use Rattle.match_stream.specs.declared.run.Run.{Run}
use Rattle.match_stream.specs.declared.ending.Ending.TheVariants as ending
use Rattle.match_stream.specs.RetainedPart.{IsRetainedPart}
use Rattle.match_stream.specs.MatcherState.{MatcherRepresents, with_log_row, Falls}
use Rattle.match_pruning.specs.inner.Steps.{State, contents_of}
use Rattle.match_stream.specs.inner.Nodes.{node_state}
use Rattle.match_stream.specs.inner.Shape.{state_fits}
use Rattle.match_stream.specs.inner.Runs.{IsCleared, next_row, retained_after}
use Rattle.match_stream.specs.inner.ObservableState.{observable_state, IsMade}
use Rattle.match_stream.proofs.LogLemmas.{not_falls, length_more, last_of_more}
use Rattle.match_stream.proofs.ShapeLemmas.{Rule, fits_step}
use Rattle.match_stream.proofs.AdmitLemmas.{admits}
use Rattle.match_stream.proofs.OverLemmas.{count_over}
use Rattle.match_stream.proofs.ArrangedLemmas.{cleared_fits}
use Rattle.match_stream.proofs.TakeLemmas.{entry, runs_fits, stays_made, Goes, cleared_goes, retained_then, answer_then, count_then, stopped_same, same_err, err_same, stopped_from}
use Rattle.match_stream.proofs.matcher.Matcher.take.Goals as goal

-- what the matcher was, and is once what has expired is taken out
goes : Rule → (m : Inside) (cleared : Run) (log : List LogEntry) (last : ℤ) → IsMade m → MatcherRepresents (observable_state m) log → IsInOrder log → IsCleared m.run cleared last
    → Goes (numbered_pattern m.pattern.now) (node_state cleared.node) cleared.rows log last
goes rule m cleared log last made st order c =
    cleared_goes rule (numbered_pattern m.pattern.now) (node_state m.run.node) (node_state cleared.node) cleared.rows m.run.last log last
    (runs_fits m.ended (state_fits no_bounds (numbered_pattern m.pattern.now) (node_state m.run.node)) st.runs made) (c.rows ∙ st.rows) st.last st.retained order c.order c.node

-- the log is in order with the row
in_order_then : (m : Inside) (log : List LogEntry) (first last : ℤ) (truths : List Bool) → first ≤ℤ last → MatcherRepresents (observable_state m) log → IsInOrder log → ¬ (Falls m.run.last last)
    → IsInOrder (with_log_row log first last truths)
in_order_then m log first last truths span st order after =
    in_order_more log (entry first last truths) order span (not_falls log last (λ k. after (subst (λ (t : Option ℤ). Falls t last) (sym st.last) k)))

pub invariant_of-self-in-Ok : goal.invariant_of-self-in-Ok
invariant_of-self-in-Ok c =
    let m = c.self.inside in let cleared = c.clear.new.self in let p = numbered_pattern m.pattern.now in
    let row = next_row cleared.rows c.args.first c.args.last in let truths = c.args.truths.now in
    stays_made m.ended (state_fits no_bounds p (node_state m.run.node)) (state_fits no_bounds p (node_state c.take.new.self.node))
    (λ made. ap (state_fits no_bounds p) c.in-Ok.ensures.took.node ∙ fits_step row truths p no_bounds (node_state cleared.node)
    ∙ cleared_fits p c.args.last (node_state m.run.node) (node_state cleared.node) c.in_default-clear.ensures.cleared.node made)
    c.self.invariant

pub returns-in-Ok-clause-answers : goal.returns-in-Ok-clause-answers
returns-in-Ok-clause-answers c =
    let m = c.self.inside in let cleared = c.clear.new.self in let p = numbered_pattern m.pattern.now in
    let first = c.args.first in let last = c.args.last in let truths = c.args.truths.now in
    let is = c.in_default-clear.ensures.cleared in
    rw (← c.self.view_is) (λ log st order.
    let g = goes c.test_is_the_rule.ensures m cleared log last c.self.invariant st order is in
    let more = length_more log (entry first last truths) in
    let rows : m.run.rows ≡ length log = st.rows in
    let same : cleared.rows ≡ m.run.rows = is.rows in
    let retained_limit : cleared.retained_limit ≡ m.run.retained_limit = c.clear.ensures.retained_limit in
    let budget : retained_after cleared (next_row cleared.rows first last) truths ≤ cleared.retained_limit = c.in-Ok.ensures.took.budget in
    record {
      represents = record {
        runs = st.runs;
        rows = c.in-Ok.ensures.took.rows ∙ (let e : cleared.rows + 1 ≡ length (with_log_row log first last truths) = omega (arith, rows, same, more) in e);
        last = c.in-Ok.ensures.took.last ∙ sym (last_of_more log (entry first last truths));
        retained = subst (λ (z : State). IsRetainedPart p (with_log_row log first last truths) (contents_of z)) (sym c.in-Ok.ensures.took.node)
            (retained_then c.test_is_the_rule.ensures p (node_state cleared.node) cleared.rows log first last truths g);
      };
      order = in_order_then m log first last truths c.requires.span st order is.order;
      answers = answer_then c.test_is_the_rule.ensures c.sorted_bindings_ascend.ensures cleared p log first last truths g (map tree_of c.in-Ok.binds) c.in-Ok.ensures.binds;
      within_limit = (
        retained_after cleared (next_row cleared.rows first last) truths,
        count_then c.test_is_the_rule.ensures c.sorted_bindings_ascend.ensures cleared p log first last truths g (map tree_of c.in-Ok.binds) c.in-Ok.ensures.binds,
        omega (arith, budget, retained_limit),
      );
    })

pub returns-in-Err-take-clause-over_limit : goal.returns-in-Err-take-clause-over_limit
returns-in-Err-take-clause-over_limit c =
    let m = c.self.inside in let cleared = c.clear.new.self in
    let first = c.args.first in let last = c.args.last in let truths = c.args.truths.now in
    let is = c.in_default-clear.ensures.cleared in
    rw (← c.self.view_is) (λ log st order number retained_limit e.
    let named = stopped_same (List Bind) c.in-Err-take.ending (ending.OverLimit number retained_limit) e in
    let over = c.in-Err-take.ensures.over_limit number retained_limit (same_err (List Bind) c.in-Err-take.ending (ending.OverLimit number retained_limit) named) in
    let rows : m.run.rows ≡ length log = st.rows in
    let same_rows : cleared.rows ≡ m.run.rows = is.rows in
    let same_retained_limit : cleared.retained_limit ≡ m.run.retained_limit = c.clear.ensures.retained_limit in
    let more = length_more log (entry first last truths) in
    let n : number ≡ cleared.rows + 1 = over.0 in
    let caps : retained_limit ≡ cleared.retained_limit = over.1 in
    let g = goes c.test_is_the_rule.ensures m cleared log last c.self.invariant st order is in
    let more_retained = over.2 (admits (next_row cleared.rows first last) truths (numbered_pattern m.pattern.now) no_bounds (node_state cleared.node) g.made).1 in
    record {
      order = in_order_then m log first last truths c.requires.span st order is.order;
      numbered = (let f : number ≡ length (with_log_row log first last truths) = omega (arith, rows, same_rows, more, n) in f);
      retained_limit_is = caps ∙ same_retained_limit;
      over_limit = (
        retained_after cleared (next_row cleared.rows first last) truths,
        count_over c.test_is_the_rule.ensures c.listing_is_by_the_test.ensures c.ascending_lists_are_ordered.ensures c.listings_exist.ensures
            cleared (numbered_pattern m.pattern.now) log first last truths g,
        omega (arith, more_retained, caps),
      );
    })

pub returns-in-Err-clause-over_limit : goal.returns-in-Err-clause-over_limit
returns-in-Err-clause-over_limit c = λ log st order number retained_limit e.
    absurd (c.in-Err.ensures.not_over_limit number retained_limit (same_err (Unit {0}) c.in-Err.ending (ending.OverLimit number retained_limit) (stopped_same (List Bind) c.in-Err.ending (ending.OverLimit number retained_limit) e)))

pub returns-in-Err-clause-out_of_order : goal.returns-in-Err-clause-out_of_order
returns-in-Err-clause-out_of_order c = rw (← c.self.view_is) (λ before now. (
  λ e.
      let k = (c.in-Err.ensures.out_of_order before now).0 (same_err (Unit {0}) c.in-Err.ending (ending.OutOfOrder before now) (stopped_same (List Bind) c.in-Err.ending (ending.OutOfOrder before now) e)) in
      (search rules, k.0, k.1, k.2),
  λ h. stopped_from (List Bind) c.in-Err.ending (ending.OutOfOrder before now)
      (err_same (Unit {0}) c.in-Err.ending (ending.OutOfOrder before now) ((c.in-Err.ensures.out_of_order before now).1 (h.1, h.2, h.3))),
))
