use Rattle.std.proofs.Common.{Option, true, inl, sym, subst}
use Rattle.match_run.proofs.PendingLemmas.{fails_so}
use Rattle.hunt_report.specs.declared.hit_summary.HitSummary.{HitSummary}
use Rattle.hunt_report.specs.HitSummaries.{begun_by}
use Rattle.hunt_report.specs.inner.Reporting.{IsTextOfSighting, AddsHitSummary, BreaksAtHitSummary}
use Rattle.hunt_report.proofs.HitReportingLemmas.{prefix_of, same-cause}
use Rattle.hunt_report.proofs.ReportLemmas.{adds-one, cuts-one}
use Rattle.hunt_report.proofs.report.add_sighting.Goals as goal

pub returns-in_err-text-clause-err : goal.returns-in_err-text-clause-err
returns-in_err-text-clause-err g c texts first same way =
    fails_so c.from_residual.result (inl (prefix_of c.parts_are_buffered.ensures.prefix (begun_by texts) c.args.pending.now first _ way))

pub returns-in_err-add_text-clause-err : goal.returns-in_err-add_text-clause-err
returns-in_err-add_text-clause-err g c texts first same way =
    let written = g.O.Sink.written c.add_text.new.output in
    let hit_summary = c.in-Some.hit_summary in
    let told : IsTextOfSighting c.args.moment c.args.indicator.now hit_summary c.as_str.result.now = subst (IsTextOfSighting c.args.moment c.args.indicator.now hit_summary) (sym c.as_str.ensures) c.in_ok-text.ensures in
    fails_so c.from_residual-in_err-add_text.result
    (subst (λ (s : Option HitSummary). BreaksAtHitSummary c.args.moment c.args.indicator.now s texts first written) (sym c.in-Some.is)
    (cuts-one c.one_text_more.ensures.first c.one_text_more.ensures.other c.args.moment c.args.indicator.now hit_summary texts c.as_str.result.now told first written c.args.begun same
    (c.in_err-add_text.ensures.err (begun_by texts) first way)))

pub returns-in_err-add_text-clause-causes : goal.returns-in_err-add_text-clause-causes
returns-in_err-add_text-clause-causes g c =
    same-cause c.add_text.result c.from_residual-in_err-add_text.result c.in_err-add_text.field-0.0 _ _ c.in_err-add_text.was c.from_residual-in_err-add_text.ensures.1 c.add_text.ensures.causes

pub returns-clause-ok : goal.returns-clause-ok
returns-clause-ok g c texts first same way =
    let written = g.O.Sink.written c.add_text.new.output in
    let hit_summary = c.in-Some.hit_summary in
    let told : IsTextOfSighting c.args.moment c.args.indicator.now hit_summary c.as_str.result.now = subst (IsTextOfSighting c.args.moment c.args.indicator.now hit_summary) (sym c.as_str.ensures) c.in_ok-text.ensures in
    subst (λ (s : Option HitSummary). AddsHitSummary c.args.moment c.args.indicator.now s texts true c.add_text.new.pending first written) (sym c.in-Some.is)
    (adds-one c.one_text_more.ensures.first c.one_text_more.ensures.other c.args.moment c.args.indicator.now hit_summary texts c.as_str.result.now told first written c.args.begun c.add_text.new.pending same
    (c.in_ok-add_text.ensures.ok (begun_by texts) first way))
