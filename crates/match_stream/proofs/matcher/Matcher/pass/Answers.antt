-- The law of nonmatching rows at the log that the matcher stands for.
use Rattle.std.proofs.Common.{ℤ, ◌≡◌, ◌≤◌, List, [], ◌∷◌, ◌++◌, length, sym, ◌∙◌, arith, rules, length-append}
use Rattle.std.specs.Prelude.{ℕ}
use Rattle.match_bindings.specs.declared.log_entry.LogEntry.{LogEntry}
use Rattle.match_bindings.specs.Bounds.{no_bounds}
use Rattle.match_bindings.specs.NumberedPattern.{numbered_pattern}
use Rattle.match_bindings.specs.Log.{observed_in}
use Rattle.match_stream.specs.declared.matcher.Matcher.TheInside.{Inside}
use Rattle.match_stream.specs.declared.ending.Ending.TheVariants as ending
use Rattle.match_stream.specs.RetainedPart.{time_of}
use Rattle.match_stream.specs.MatcherState.{MatcherRepresents}
use Rattle.match_stream.specs.Answer.{AnswersAfter}
use Rattle.match_stream.specs.Passing.{ContinuesWithoutMatch, no_answers}
use Rattle.match_pruning.specs.inner.Steps.{expired}
use Rattle.match_stream.specs.inner.Nodes.{node_state}
use Rattle.match_stream.specs.inner.Shape.{state_fits}
use Rattle.match_stream.specs.inner.ObservableState.{observable_state, IsMade}
use Rattle.match_stream.proofs.ShapeLemmas.{Rule, stands_from, retained_from}
use Rattle.match_stream.proofs.AnswerLemmas.{Ascend}
use Rattle.match_stream.proofs.StepLemmas.{Stands, all_of}
use Rattle.match_stream.proofs.TakeLemmas.{runs_fits, stays_made, stopped_same, same_stopped, same_err}
use Rattle.match_stream.proofs.PassLemmas.{pass_law, last_of_append}
use Rattle.match_stream.proofs.ArrangedLemmas.{arranged_stands, cleared_fits}
use Rattle.match_stream.proofs.matcher.Matcher.pass.Goals as goal

-- what the law says, of rows that are no list of cases yet
law : Rule → Ascend → (m : Inside) (log nonmatching : List LogEntry) (rows : ℕ) (last : ℤ) → 1 ≤ rows → IsMade m → MatcherRepresents (observable_state m) log → ContinuesWithoutMatch log nonmatching rows last →
    Stands (observed_in (log ++ nonmatching)) (all_of (observed_in (log ++ nonmatching))) (time_of (log ++ nonmatching)) no_bounds (numbered_pattern m.pattern.now) (expired last (node_state m.run.node))
    × AnswersAfter (numbered_pattern m.pattern.now) log nonmatching (no_answers nonmatching)
law rule sift_up m log [] rows last some made st g = absurd (let none = g.count in omega (arith, some, none))
law rule sift_up m log (r ∷ rest) rows last some made st g =
    pass_law rule sift_up (numbered_pattern m.pattern.now) log r rest last (node_state m.run.node) g.none_holds g.order g.last_is
    (stands_from rule (observed_in log) (time_of log) (numbered_pattern m.pattern.now) no_bounds (node_state m.run.node)
    (runs_fits m.ended (state_fits no_bounds (numbered_pattern m.pattern.now) (node_state m.run.node)) st.runs made) st.retained)

pub invariant_of-self : goal.invariant_of-self
invariant_of-self c =
    let m = c.self.inside in let p = numbered_pattern m.pattern.now in let z = node_state m.run.node in let z' = node_state c.pass.new.self.node in
    stays_made m.ended (state_fits no_bounds p z) (state_fits no_bounds p z') (cleared_fits p c.args.last z z' c.in-Ok.ensures.passed.node) c.self.invariant

pub returns-in-Ok-clause-represents : goal.returns-in-Ok-clause-represents
returns-in-Ok-clause-represents c =
    let m = c.self.inside in let p = numbered_pattern m.pattern.now in
    rw (← c.self.view_is) (λ log nonmatching st g.
    let both = law c.test_is_the_rule.ensures c.sorted_bindings_ascend.ensures m log nonmatching c.args.rows c.args.last c.requires.some c.self.invariant st g in
    let count = g.count in let rows : m.run.rows ≡ length log = st.rows in let taken = c.in-Ok.ensures.passed.rows_are in
    record {
      runs = st.runs;
      rows = (let e : c.pass.new.self.rows ≡ length (log ++ nonmatching) = omega (arith, rows, count, taken, length-append log nonmatching) in e);
      last = c.in-Ok.ensures.passed.last_is ∙ sym (last_of_append log nonmatching c.args.last g.last_is);
      retained = retained_from c.test_is_the_rule.ensures (observed_in (log ++ nonmatching)) (time_of (log ++ nonmatching)) p no_bounds (node_state c.pass.new.self.node)
          (arranged_stands (observed_in (log ++ nonmatching)) (all_of (observed_in (log ++ nonmatching))) (time_of (log ++ nonmatching)) no_bounds p (expired c.args.last (node_state m.run.node))
          (node_state c.pass.new.self.node) both.0 c.in-Ok.ensures.passed.node);
    })

pub returns-in-Ok-clause-nothing_ends : goal.returns-in-Ok-clause-nothing_ends
returns-in-Ok-clause-nothing_ends c =
    let m = c.self.inside in
    rw (← c.self.view_is) (λ log nonmatching st g.
    (law c.test_is_the_rule.ensures c.sorted_bindings_ascend.ensures m log nonmatching c.args.rows c.args.last c.requires.some c.self.invariant st g).1)

pub returns-in-Err-clause-out_of_order : goal.returns-in-Err-clause-out_of_order
returns-in-Err-clause-out_of_order c = rw (← c.self.view_is) (λ before now. (
  λ e.
      let k = (c.in-Err.ensures.out_of_order before now).0 (same_err (Unit {0}) c.in-Err.ending (ending.OutOfOrder before now) (stopped_same (Unit {0}) c.in-Err.ending (ending.OutOfOrder before now) e)) in
      (search rules, k.0, k.1, k.2),
  λ h. same_stopped (Unit {0}) c.in-Err.ending (ending.OutOfOrder before now) ((c.in-Err.ensures.out_of_order before now).1 (h.1, h.2, h.3)),
))
