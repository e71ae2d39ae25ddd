use Rattle.std.proofs.Common.{◌≡◌, List, Option, length, take, take_all, ap, subst, ◌∙◌, arith}
use Rattle.match_run.proofs.PendingLemmas.{fails_so}
use Rattle.hunt_feed.specs.declared.hunted.Hunted.{Hunted}
use Rattle.hunt_report.specs.declared.hit_summary.HitSummary.{HitSummary}
use Rattle.hunt_report.specs.Hunting.{HunterState}
use Rattle.hunt_report.specs.inner.Reporting.{ReportsSoFar, ReportsPart}
use Rattle.hunt_report.proofs.ReportLemmas.{goes-on, breaks-off}
use Rattle.hunt_report.proofs.report.add_sightings.Goals as goal

pub returns-in_err-begun-clause-err : goal.returns-in_err-begun-clause-err
returns-in_err-begun-clause-err g c first way =
    let far = c.loop-at.invariant.reports first way in
    let hunted = c.hunter.inside.hunted.now in
    let hit_summaries = c.as_slice-hit_summaries.result.now in
    let written = g.O.Sink.written c.add_sighting.new.output in
    let within = c.loop-at-test.true in
    let count = c.hunter.invariant.count in
    let long : length hit_summaries ≡ length c.hunter.inside.hit_summaries.items = ap length c.as_slice-hit_summaries.ensures.value in
    fails_so c.from_residual.result
    (subst (λ (s : HunterState). ReportsPart c.args.moment s.hunted s.hit_summaries first written) c.hunter.view_is
    (subst (λ (l : List (Option HitSummary)). ReportsPart c.args.moment hunted l first written) c.as_slice-hit_summaries.ensures.value
    (breaks-off c.args.moment hunted hit_summaries c.loop-at.at c.index-hunted-at.result c.index-hit_summaries-at.result within c.index-hunted-at.is (omega (arith, within, count, long)) c.index-hit_summaries-at.is first
    written far.texts far.reports (c.in_err-begun.ensures.err far.texts first far.begun_is far.way))))

pub loop-at-preserved : goal.loop-at-preserved
loop-at-preserved g c = record {
  reports = λ first way.
      let far = c.loop-at.invariant.reports first way in
      let hunted = c.hunter.inside.hunted.now in
      let hit_summaries = c.as_slice-hit_summaries.result.now in
      let within = c.loop-at-test.true in
      let count = c.hunter.invariant.count in
      let long : length hit_summaries ≡ length c.hunter.inside.hit_summaries.items = ap length c.as_slice-hit_summaries.ensures.value in
      goes-on c.args.moment hunted hit_summaries c.loop-at.at c.index-hunted-at.result c.index-hit_summaries-at.result within c.index-hunted-at.is (omega (arith, within, count, long)) c.index-hit_summaries-at.is first
      (g.O.Sink.written c.add_sighting.new.output) c.in_ok-begun.begun c.add_sighting.new.pending far.texts far.reports (c.in_ok-begun.ensures.ok far.texts first far.begun_is far.way);
  quiet = c.in_ok-begun.ensures.causes.quiet (λ failed. cc failed) ∙ c.loop-at.invariant.quiet;
}

pub returns-clause-ok : goal.returns-clause-ok
returns-clause-ok g c first way =
    let far = c.loop-at.invariant.reports first way in
    let hunted = c.hunter.inside.hunted.now in
    let hit_summaries = c.as_slice-hit_summaries.result.now in
    let written = g.O.Sink.written c.loop-at.output in
    let at = c.loop-at.at in
    let past = c.loop-at-test.false in
    let count = c.hunter.invariant.count in
    let long : length hit_summaries ≡ length c.hunter.inside.hit_summaries.items = ap length c.as_slice-hit_summaries.ensures.value in
    subst (λ (s : HunterState). ReportsSoFar c.args.moment s.hunted s.hit_summaries c.loop-at.begun c.loop-at.pending first written) c.hunter.view_is
    (subst (λ (l : List (Option HitSummary)). ReportsSoFar c.args.moment hunted l c.loop-at.begun c.loop-at.pending first written) c.as_slice-hit_summaries.ensures.value
    (subst (λ (l : List (Option HitSummary)). ReportsSoFar c.args.moment hunted l c.loop-at.begun c.loop-at.pending first written) (take_all at hit_summaries (omega (arith, past, count, long)))
    (subst (λ (l : List Hunted). ReportsSoFar c.args.moment l (take at hit_summaries) c.loop-at.begun c.loop-at.pending first written) (take_all at hunted past) far)))
