-- The row at an engine that stands for rows: swept, judged, taken and cleared.
use Rattle.std.proofs.Common.{◌≡◌, ◌+◌, ◌++◌, ◌∷◌, [], ℕ, List, length, take, drop, refl, sym, ◌∙◌, ap, subst, arith}
use Rattle.std.specs.Prelude.{Some, map, false}
use Rattle.stix_bundles.specs.Objects.{data_in}
use Rattle.match_stream.specs.MatcherState.{Falls}
use Rattle.hunt_engine.specs.EngineLog.{ObservationRow, engine_row}
use Rattle.hunt_engine.specs.EngineState.{EngineState, EngineRepresents}
use Rattle.hunt_engine.specs.EngineAnswer.{ReportsRow}
use Rattle.hunt_engine.specs.LazyMatcherState.{LazyMatcherState}
use Rattle.hunt_engine.specs.inner.Evaluation.{IsEvaluated}
use Rattle.hunt_engine.proofs.RoundLemmas.{stands_with, row_tells, row_follows, first_over_limit}
use Rattle.hunt_engine.proofs.EngineLemmas.{state_of, row_at, leaves_of, ready, follow_first, follow_then, right_given, right_then, positions_inside, marked_inside, given_at, same_items, lazy_matchers_written, marks_written}
use Rattle.hunt_engine.proofs.engine.Engine.take.Goals as goal

pub sweep-requires-clause-follow : goal.sweep-requires-clause-follow
sweep-requires-clause-follow c =
    let st = ready c.self.inside c.args.self.now c.self.view_is c.requires.ready c.if-self.false in
    follow_first c.self.inside c.args.observation.now c.as_mut_slice-lazy_matchers.result.now st.0 st.1 c.as_mut_slice-lazy_matchers.ensures.value

pub take_all-requires-clause-follow : goal.take_all-requires-clause-follow
take_all-requires-clause-follow c =
    let st = ready c.self.inside c.args.self.now c.self.view_is c.requires.ready c.if-self.false in
    follow_then c.self.inside c.args.observation.now c.as_mut_slice-lazy_matchers.result.now c.sweep.new.lazy_matchers c.as_mut_slice-2.result.now st.0 st.1
    c.as_mut_slice-lazy_matchers.ensures.value c.in_ok-self-inside.ensures (c.as_mut_slice-2.ensures.value ∙ lazy_matchers_written c.self.inside c.as_mut_slice-lazy_matchers.result.now c.sweep.new.lazy_matchers c.as_mut_slice-lazy_matchers.ensures.value c.as_mut_slice-lazy_matchers.ensures.len c.in_ok-self-inside.ensures)

pub take_all-requires-clause-there : goal.take_all-requires-clause-there
take_all-requires-clause-there c =
    positions_inside c.self.inside (engine_row c.args.observation.now (data_in c.args.bundle.now)) c.evaluate.new.marks c.in_ok-row_brackets.row_brackets.affected.items c.as_slice-4.result.now c.as_mut_slice-lazy_matchers.result.now c.sweep.new.lazy_matchers c.as_mut_slice-2.result.now
    c.self.invariant (subst (λ (roots : List ℕ). IsEvaluated (data_in c.args.bundle.now) roots (leaves_of c.self.inside) c.self.inside.brackets.owners.items c.evaluate.new.marks c.in_ok-row_brackets.row_brackets.affected.items) c.as_slice-2.ensures c.in_ok-row_brackets.ensures.evaluated) c.as_slice-4.ensures.value c.as_mut_slice-lazy_matchers.ensures.value c.in_ok-self-inside.ensures (c.as_mut_slice-2.ensures.value ∙ lazy_matchers_written c.self.inside c.as_mut_slice-lazy_matchers.result.now c.sweep.new.lazy_matchers c.as_mut_slice-lazy_matchers.ensures.value c.as_mut_slice-lazy_matchers.ensures.len c.in_ok-self-inside.ensures)

pub evaluate-requires-clause-right : goal.evaluate-requires-clause-right
evaluate-requires-clause-right c = right_given c.self.inside c.args.self.now (data_in c.args.bundle.now) c.args.memo.now c.self.invariant c.self.view_is c.requires.right

pub returns-clause-right : goal.returns-clause-right
returns-clause-right c = right_then c.self.inside c.args.self.now (data_in c.args.bundle.now) c.evaluate.new.memo c.self.invariant c.self.view_is c.in_ok-row_brackets.ensures.right

pub clear-requires : goal.clear-requires
clear-requires c = record {
  marked =
      marked_inside c.evaluate.new.marks c.as_mut_slice-3.result.now c.in_ok-row_brackets.row_brackets.matching.items c.as_slice-5.result.now c.in_ok-row_brackets.ensures.matching
      (c.as_mut_slice-3.ensures.value ∙ marks_written c.self.inside (engine_row c.args.observation.now (data_in c.args.bundle.now)) c.as_mut_slice.result.now c.evaluate.new.marks c.in_ok-row_brackets.row_brackets.affected.items c.self.invariant (subst (λ (roots : List ℕ). IsEvaluated (data_in c.args.bundle.now) roots (leaves_of c.self.inside) c.self.inside.brackets.owners.items c.evaluate.new.marks c.in_ok-row_brackets.row_brackets.affected.items) c.as_slice-2.ensures c.in_ok-row_brackets.ensures.evaluated) c.as_mut_slice.ensures.value c.as_mut_slice.ensures.len) c.as_slice-5.ensures.value;
}

pub returns-in-Err-clause-over_limit : goal.returns-in-Err-clause-over_limit
returns-in-Err-clause-over_limit c =
    let m = c.self.inside in let r = engine_row c.args.observation.now (data_in c.args.bundle.now) in
    rw (← c.self.view_is)
    (λ rows st position number retained_limit e.
    let at = given_at m rows r c.evaluate.new.marks c.as_slice-3.result.now c.in_ok-row_brackets.row_brackets.affected.items c.as_slice-4.result.now c.as_mut_slice-lazy_matchers.result.now c.sweep.new.lazy_matchers c.as_mut_slice-2.result.now c.self.invariant st
    (record { span = c.requires.span; order = subst (λ (s : EngineState). Falls s.last c.args.observation.now.last → ⊥) (sym c.self.view_is) c.requires.order })
    (subst (λ (roots : List ℕ). IsEvaluated (data_in c.args.bundle.now) roots (leaves_of c.self.inside) c.self.inside.brackets.owners.items c.evaluate.new.marks c.in_ok-row_brackets.row_brackets.affected.items) c.as_slice-2.ensures c.in_ok-row_brackets.ensures.evaluated) (c.as_slice-3.ensures.value ∙ marks_written c.self.inside (engine_row c.args.observation.now (data_in c.args.bundle.now)) c.as_mut_slice.result.now c.evaluate.new.marks c.in_ok-row_brackets.row_brackets.affected.items c.self.invariant (subst (λ (roots : List ℕ). IsEvaluated (data_in c.args.bundle.now) roots (leaves_of c.self.inside) c.self.inside.brackets.owners.items c.evaluate.new.marks c.in_ok-row_brackets.row_brackets.affected.items) c.as_slice-2.ensures c.in_ok-row_brackets.ensures.evaluated) c.as_mut_slice.ensures.value c.as_mut_slice.ensures.len) c.as_slice-4.ensures.value c.as_mut_slice-lazy_matchers.ensures.value c.in_ok-self-inside.ensures (c.as_mut_slice-2.ensures.value ∙ lazy_matchers_written c.self.inside c.as_mut_slice-lazy_matchers.result.now c.sweep.new.lazy_matchers c.as_mut_slice-lazy_matchers.ensures.value c.as_mut_slice-lazy_matchers.ensures.len c.in_ok-self-inside.ensures) in
    first_over_limit c.test_is_the_rule.ensures (map (λ h. h.pattern) m.hunted.now) m.retained_limit rows r (row_at m c.args.observation.now) (leaves_of m) m.brackets.owners.items m.brackets.bracket_ranges.items c.as_slice-3.result.now c.as_slice-4.result.now m.lazy_matchers.items
    c.as_mut_slice-2.result.now at position number retained_limit (c.in-Err.ensures.over_limit position number retained_limit e))

pub returns-clause-reports : goal.returns-clause-reports
returns-clause-reports c =
    let m = c.self.inside in let r = engine_row c.args.observation.now (data_in c.args.bundle.now) in
    subst (λ (s : EngineState). (rows : List ObservationRow) → EngineRepresents s rows → ReportsRow s.patterns (rows ++ r ∷ []) c.in-Ok.found) c.self.view_is
    (λ rows st.
    let at = given_at m rows r c.evaluate.new.marks c.as_slice-3.result.now c.in_ok-row_brackets.row_brackets.affected.items c.as_slice-4.result.now c.as_mut_slice-lazy_matchers.result.now c.sweep.new.lazy_matchers c.as_mut_slice-2.result.now c.self.invariant st
    (record { span = c.requires.span; order = subst (λ (s : EngineState). Falls s.last c.args.observation.now.last → ⊥) (sym c.self.view_is) c.requires.order })
    (subst (λ (roots : List ℕ). IsEvaluated (data_in c.args.bundle.now) roots (leaves_of c.self.inside) c.self.inside.brackets.owners.items c.evaluate.new.marks c.in_ok-row_brackets.row_brackets.affected.items) c.as_slice-2.ensures c.in_ok-row_brackets.ensures.evaluated) (c.as_slice-3.ensures.value ∙ marks_written c.self.inside (engine_row c.args.observation.now (data_in c.args.bundle.now)) c.as_mut_slice.result.now c.evaluate.new.marks c.in_ok-row_brackets.row_brackets.affected.items c.self.invariant (subst (λ (roots : List ℕ). IsEvaluated (data_in c.args.bundle.now) roots (leaves_of c.self.inside) c.self.inside.brackets.owners.items c.evaluate.new.marks c.in_ok-row_brackets.row_brackets.affected.items) c.as_slice-2.ensures c.in_ok-row_brackets.ensures.evaluated) c.as_mut_slice.ensures.value c.as_mut_slice.ensures.len) c.as_slice-4.ensures.value c.as_mut_slice-lazy_matchers.ensures.value c.in_ok-self-inside.ensures (c.as_mut_slice-2.ensures.value ∙ lazy_matchers_written c.self.inside c.as_mut_slice-lazy_matchers.result.now c.sweep.new.lazy_matchers c.as_mut_slice-lazy_matchers.ensures.value c.as_mut_slice-lazy_matchers.ensures.len c.in_ok-self-inside.ensures) in
    row_tells c.test_is_the_rule.ensures (map (λ h. h.pattern) m.hunted.now) m.retained_limit rows r (row_at m c.args.observation.now) (leaves_of m) m.brackets.owners.items m.brackets.bracket_ranges.items c.as_slice-3.result.now c.as_slice-4.result.now m.lazy_matchers.items
    c.as_mut_slice-2.result.now at c.take_all.new.lazy_matchers c.in-Ok.found c.in-Ok.ensures.took)

pub returns-clause-represents : goal.returns-clause-represents
returns-clause-represents c =
    let m = c.self.inside in let r = engine_row c.args.observation.now (data_in c.args.bundle.now) in
    let after : EngineState = record { patterns = map (λ h. h.pattern) m.hunted.now; retained_limit = m.retained_limit; rows = m.rows + 1; last = Some c.args.observation.now.last; ended = false; lazy_matchers = c.take_all.new.lazy_matchers } in
    rw (← c.self.view_is)
    (λ rows st.
    let at = given_at m rows r c.evaluate.new.marks c.as_slice-3.result.now c.in_ok-row_brackets.row_brackets.affected.items c.as_slice-4.result.now c.as_mut_slice-lazy_matchers.result.now c.sweep.new.lazy_matchers c.as_mut_slice-2.result.now c.self.invariant st
    (record { span = c.requires.span; order = subst (λ (s : EngineState). Falls s.last c.args.observation.now.last → ⊥) (sym c.self.view_is) c.requires.order })
    (subst (λ (roots : List ℕ). IsEvaluated (data_in c.args.bundle.now) roots (leaves_of c.self.inside) c.self.inside.brackets.owners.items c.evaluate.new.marks c.in_ok-row_brackets.row_brackets.affected.items) c.as_slice-2.ensures c.in_ok-row_brackets.ensures.evaluated) (c.as_slice-3.ensures.value ∙ marks_written c.self.inside (engine_row c.args.observation.now (data_in c.args.bundle.now)) c.as_mut_slice.result.now c.evaluate.new.marks c.in_ok-row_brackets.row_brackets.affected.items c.self.invariant (subst (λ (roots : List ℕ). IsEvaluated (data_in c.args.bundle.now) roots (leaves_of c.self.inside) c.self.inside.brackets.owners.items c.evaluate.new.marks c.in_ok-row_brackets.row_brackets.affected.items) c.as_slice-2.ensures c.in_ok-row_brackets.ensures.evaluated) c.as_mut_slice.ensures.value c.as_mut_slice.ensures.len) c.as_slice-4.ensures.value c.as_mut_slice-lazy_matchers.ensures.value c.in_ok-self-inside.ensures (c.as_mut_slice-2.ensures.value ∙ lazy_matchers_written c.self.inside c.as_mut_slice-lazy_matchers.result.now c.sweep.new.lazy_matchers c.as_mut_slice-lazy_matchers.ensures.value c.as_mut_slice-lazy_matchers.ensures.len c.in_ok-self-inside.ensures) in
    let took = c.in-Ok.ensures.took in let count = took.count in let swept = at.still.count in let many = st.count in
    let len : length c.as_mut_slice-lazy_matchers.result.now ≡ m.lazy_matchers.len = c.as_mut_slice-lazy_matchers.ensures.len in
    let one : length c.as_mut_slice-lazy_matchers.result.now ≡ length m.lazy_matchers.items = ap length c.as_mut_slice-lazy_matchers.ensures.value in
    let written = same_items c.take_all.new.lazy_matchers (take m.lazy_matchers.len (c.sweep.new.lazy_matchers ++ drop (length c.sweep.new.lazy_matchers) m.lazy_matchers.items)) m.lazy_matchers.len
    (let g : m.lazy_matchers.len ≡ length c.take_all.new.lazy_matchers = omega (arith, len, one, swept, count) in g) in
    subst (λ (l : List LazyMatcherState). EngineRepresents (record { patterns = map (λ h. h.pattern) m.hunted.now; retained_limit = m.retained_limit; rows = m.rows + 1; last = Some c.args.observation.now.last; ended = false; lazy_matchers = l }) (rows ++ r ∷ [])) (sym written)
    (stands_with (state_of m) after rows r st refl refl refl (let e : length c.take_all.new.lazy_matchers ≡ length (map (λ h. h.pattern) m.hunted.now) = omega (arith, count, swept, many) in e)
    (row_follows c.test_is_the_rule.ensures (map (λ h. h.pattern) m.hunted.now) m.retained_limit rows r (row_at m c.args.observation.now) (leaves_of m) m.brackets.owners.items m.brackets.bracket_ranges.items c.as_slice-3.result.now c.as_slice-4.result.now m.lazy_matchers.items
    c.as_mut_slice-2.result.now at c.take_all.new.lazy_matchers c.in-Ok.found took)))
