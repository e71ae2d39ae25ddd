use Rattle.std.proofs.Common.{◌≡◌, ◌+◌, ◌<◌, ◌++◌, length, ℕ, List, [], ◌∷◌, take, drop, append_assoc, refl, sym, ap, subst, ◌∙◌}
use Rattle.std.specs.Prelude.{All}
use Rattle.flow_edges.specs.Flow.{WritesPrefix}
use Rattle.stix_ids.specs.Kind.{IsKind}
use Rattle.stix_bundles.specs.Objects.{data_in}
use Rattle.stix_bundles.specs.declared.observation.Observation.{Observation}
use Rattle.match_run.proofs.RowsLemmas.{drop_here, take_here, all_here}
use Rattle.match_run.specs.Reading.{MayFollow}
use Rattle.match_run.specs.Buffered.{IsBuffered}
use Rattle.hunt_feed.specs.declared.hunted.Hunted.{Hunted}
use Rattle.hunt_engine.specs.declared.found.Hit.{Hit}
use Rattle.hunt_engine.specs.EngineLog.{engine_row}
use Rattle.hunt_engine.specs.Memo.{brackets_of, IsSoundMemo}
use Rattle.hunt_report.specs.Hunting.{HunterState, patterns_of, TakesRows}
use Rattle.hunt_report.specs.Lines.{hits_text}
use Rattle.hunt_report.proofs.IndicatorKindLemmas.{kinds}
use Rattle.hunt_report.specs.Rows.{rows_over}
use Rattle.hunt_report.proofs.HunterLemmas.{right-none, takes-none, sees-more, takes-first, ready-row, follow-after}
use Rattle.hunt_report.proofs.HitReportingLemmas.{ends-first, ends-next, ends-cut}
use Rattle.hunt_report.proofs.hunter.Hunter.report_all.Goals as goal

pub loop-observation-init : goal.loop-observation-init
loop-observation-init g c =
    let written = g.O.Sink.written c.args.output.now in record {
      ready = c.requires.ready;
      right = right-none (data_in c.args.batch.now.bundle) (brackets_of (patterns_of c.args.self.now.hunted)) c.in_ok-memo.memo c.in_ok-memo.ensures;
      sees = record {
        text = [];
        takes = takes-none c.args.self.now;
        way = subst (λ (p : List ℕ). IsBuffered [] p written written) (sym c.requires.empty) (c.parts_are_buffered.ensures.none written);
      };
      follow = subst (λ (os : List Observation). MayFollow c.args.self.now.engine.last (c.args.self.now.engine.rows + 1) os) (sym c.as_slice-observations.ensures) c.requires.follow;
      quiet = refl;
    }

pub returns-in_err-memo-clause-end : goal.returns-in_err-memo-clause-end
returns-in_err-memo-clause-end g c =
    let written = g.O.Sink.written c.args.output.now in
    ends-first c.parts_are_buffered.ensures.prefix (data_in c.args.batch.now.bundle) c.args.batch.now.observations c.args.self.now c.args.pending.now written c.from_residual.result c.from_residual.ensures.1
    (subst (λ (p : List ℕ). IsBuffered [] p written written) (sym c.requires.empty) (c.parts_are_buffered.ensures.none written))

pub returns-in-Err-clause-end : goal.returns-in-Err-clause-end
returns-in-Err-clause-end g c =
    let i = c.loop-observation.observation-index in
    let items = c.as_slice-observations.result.now in
    let o = c.observation-item.result in
    ends-next c.parts_are_buffered.ensures.prefix (data_in c.args.batch.now.bundle) c.args.batch.now.observations (take i items) (drop (i + 1) items) o
    c.args.self.now c.loop-observation.self c.loop-observation.pending (g.O.Sink.written c.args.output.now) (g.O.Sink.written c.loop-observation.output)
    (sym c.as_slice-observations.ensures ∙ all_here items i o c.loop-observation-test.true c.observation-item.is) c.loop-observation.invariant.sees c.in-Err.end c.in-Err.ensures.end

pub add_hits-requires-clause-kinds : goal.add_hits-requires-clause-kinds
add_hits-requires-clause-kinds g c =
    let o = c.observation-item.result in
    let objects = data_in c.args.batch.now.bundle in
    let ready = ready-row (engine_row o objects) c.loop-observation.self c.take.new.self c.in-Ok.hits c.loop-observation.invariant.ready c.in-Ok.ensures.row in
    subst (λ (s : HunterState). All (λ h. IsKind h.id.kind) s.hunted) (sym c.self-in-loop-observation.view_is) (kinds c.take.new.self.hunted ready.huntable)

pub add_hits-requires-clause-inside : goal.add_hits-requires-clause-inside
add_hits-requires-clause-inside g c =
    let row = c.in-Ok.ensures.row in
    subst (λ (s : HunterState). All (λ hit. hit.hunted < length s.hunted) c.as_slice.result.now) (sym c.self-in-loop-observation.view_is)
    (subst (λ (hits : List Hit). All (λ hit. hit.hunted < length c.take.new.self.hunted) hits) (sym c.as_slice.ensures)
    (subst (λ (h : List Hunted). All (λ hit. hit.hunted < length h) c.in-Ok.hits) (sym row.hunted) row.inside))

pub returns-in_err-add_hits-clause-end : goal.returns-in_err-add_hits-clause-end
returns-in_err-add_hits-clause-end g c =
    let i = c.loop-observation.observation-index in
    let items = c.as_slice-observations.result.now in
    let o = c.observation-item.result in
    let objects = data_in c.args.batch.now.bundle in
    let first = g.O.Sink.written c.args.output.now in
    let far = c.loop-observation.invariant.sees in
    let same : hits_text c.self-in-loop-observation.inside.hunted.now c.as_slice.result.now ≡ hits_text c.loop-observation.self.hunted c.in-Ok.hits =
    ap (λ (h : List Hunted). hits_text h c.as_slice.result.now) (ap (λ (s : HunterState). s.hunted) c.self-in-loop-observation.view_is ∙ c.in-Ok.ensures.row.hunted)
    ∙ ap (hits_text c.loop-observation.self.hunted) c.as_slice.ensures in
    let between = c.take.new.self in
    let text = far.text ++ hits_text c.loop-observation.self.hunted c.in-Ok.hits in
    let told = sees-more objects (take i items) o c.args.self.now c.loop-observation.self between far.text c.in-Ok.hits far.takes c.in-Ok.ensures.row in
    ends-cut objects c.args.batch.now.observations c.args.self.now c.add_hits.new.pending first (g.O.Sink.written c.add_hits.new.output)
    c.from_residual-in_err-add_hits.result c.in_err-add_hits.field-0.0 c.from_residual-in_err-add_hits.ensures.1 (record {
      text = text;
      takes = takes-first objects (take i items ++ o ∷ []) (drop (i + 1) items) c.args.batch.now.observations c.args.self.now between text
          (sym c.as_slice-observations.ensures ∙ all_here items i o c.loop-observation-test.true c.observation-item.is ∙ sym (append_assoc (take i items) (o ∷ []) (drop (i + 1) items))) told;
      prefix = subst (λ (t : List ℕ). WritesPrefix (far.text ++ t) first (g.O.Sink.written c.add_hits.new.output)) same (c.in_err-add_hits.ensures.err far.text first far.way);
    })

pub loop-observation-preserved : goal.loop-observation-preserved
loop-observation-preserved g c =
    let i = c.loop-observation.observation-index in
    let items = c.as_slice-observations.result.now in
    let o = c.observation-item.result in
    let objects = data_in c.args.batch.now.bundle in
    let first = g.O.Sink.written c.args.output.now in
    let written = g.O.Sink.written c.add_hits.new.output in
    let before = c.args.self.now in
    let between = c.loop-observation.self in
    let after = c.take.new.self in
    let far = c.loop-observation.invariant.sees in
    let same : hits_text c.self-in-loop-observation.inside.hunted.now c.as_slice.result.now ≡ hits_text c.loop-observation.self.hunted c.in-Ok.hits =
    ap (λ (h : List Hunted). hits_text h c.as_slice.result.now) (ap (λ (s : HunterState). s.hunted) c.self-in-loop-observation.view_is ∙ c.in-Ok.ensures.row.hunted)
    ∙ ap (hits_text c.loop-observation.self.hunted) c.as_slice.ensures in
    let row = c.in-Ok.ensures.row in
    let text = far.text ++ hits_text between.hunted c.in-Ok.hits in
    let here = drop_here items i o c.loop-observation-test.true c.observation-item.is in
    let seen = take_here items i o c.loop-observation-test.true c.observation-item.is in
    let follow = subst (λ (os : List Observation). MayFollow between.engine.last (between.engine.rows + 1) os) here c.loop-observation.invariant.follow in
    record {
      ready = ready-row (engine_row o objects) between after c.in-Ok.hits c.loop-observation.invariant.ready row;
      right = subst (λ (h : List Hunted). IsSoundMemo objects (brackets_of (patterns_of h)) c.take.new.memo) (sym row.hunted) c.in-Ok.ensures.right;
      sees = record {
        text = text;
        takes = subst (λ (os : List Observation). TakesRows (rows_over objects os) before after text) (sym seen)
            (sees-more objects (take i items) o before between after far.text c.in-Ok.hits far.takes row);
        way = subst (λ (t : List ℕ). IsBuffered (far.text ++ t) c.add_hits.new.pending first written) same (c.in_ok-add_hits.ensures.ok far.text first far.way);
      };
      follow = follow-after between after o objects c.in-Ok.hits (drop (i + 1) items) c.loop-observation.invariant.ready row follow.3;
      quiet = c.in_ok-add_hits.ensures.causes.quiet (λ failed. cc failed) ∙ c.loop-observation.invariant.quiet;
    }
