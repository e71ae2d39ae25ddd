use Rattle.std.proofs.Common.{◌≡◌, ◌++◌, ℕ, List, [], inl, sym, ap, subst, ◌∙◌}
use Rattle.flow_edges.specs.Flow.{written_with, WritesPrefix}
use Rattle.match_run.proofs.PendingLemmas.{fails_so}
use Rattle.match_run.specs.Buffered.{IsBuffered}
use Rattle.hunt_report.specs.HitSummaries.{begun_by, report_of}
use Rattle.hunt_report.specs.inner.Reporting.{report_end}
use Rattle.hunt_report.proofs.ReportLemmas.{report, report-whole, part_of_report}
use Rattle.hunt_report.proofs.report.write_report.Goals as goal

-- nothing is on its way yet
pub returns-in_err-begun-clause-err : goal.returns-in_err-begun-clause-err
returns-in_err-begun-clause-err g c rows hits hunts =
    let written = g.O.Sink.written c.args.output.now in
    let way = subst (λ (p : List ℕ). IsBuffered [] p written written) (sym c.new-pending.ensures) (c.parts_are_buffered.ensures.none written) in
    fails_so c.from_residual.result
    (part_of_report c.args.moment rows hits c.args.hunter.now hunts written (g.O.Sink.written c.add_sightings.new.output) (c.in_err-begun.ensures.err written way))

pub returns-in_err-add-clause-err : goal.returns-in_err-add-clause-err
returns-in_err-add-clause-err g c rows hits hunts =
    let written = g.O.Sink.written c.args.output.now in
    let now = g.O.Sink.written c.add.new.output in
    let way = subst (λ (p : List ℕ). IsBuffered [] p written written) (sym c.new-pending.ensures) (c.parts_are_buffered.ensures.none written) in
    let far = c.in_ok-begun.ensures.ok written way in
    let line : begun_by far.texts ++ c.as_bytes.result.now ≡ report_of far.texts =
    ap (λ (e : List ℕ). begun_by far.texts ++ e) (c.as_bytes.ensures.value ∙ c.end_of-end.ensures ∙ ap report_end far.begun_is) ∙ report-whole far.texts in
    fails_so c.from_residual-in_err-add.result (
      report_of far.texts,
      inl (report c.args.moment rows hits c.args.hunter.now hunts far.texts far.reports),
      subst (λ (t : List ℕ). WritesPrefix t written now) line (c.in_err-add.ensures.err (begun_by far.texts) written far.way),
    )

pub returns-in_err-write-clause-err : goal.returns-in_err-write-clause-err
returns-in_err-write-clause-err g c rows hits hunts =
    let written = g.O.Sink.written c.args.output.now in
    let now = g.O.Sink.written c.write.new.output in
    let way = subst (λ (p : List ℕ). IsBuffered [] p written written) (sym c.new-pending.ensures) (c.parts_are_buffered.ensures.none written) in
    let far = c.in_ok-begun.ensures.ok written way in
    let line : begun_by far.texts ++ c.as_bytes.result.now ≡ report_of far.texts =
    ap (λ (e : List ℕ). begun_by far.texts ++ e) (c.as_bytes.ensures.value ∙ c.end_of-end.ensures ∙ ap report_end far.begun_is) ∙ report-whole far.texts in
    fails_so c.from_residual-in_err-write.result (
      report_of far.texts,
      inl (report c.args.moment rows hits c.args.hunter.now hunts far.texts far.reports),
      subst (λ (t : List ℕ). WritesPrefix t written now) line
          (c.in_err-write.ensures.err (begun_by far.texts ++ c.as_bytes.result.now) written (c.in_ok-add.ensures.ok (begun_by far.texts) written far.way)),
    )

pub returns-clause-ok : goal.returns-clause-ok
returns-clause-ok g c rows hits hunts =
    let written = g.O.Sink.written c.args.output.now in
    let now = g.O.Sink.written c.write.new.output in
    let way = subst (λ (p : List ℕ). IsBuffered [] p written written) (sym c.new-pending.ensures) (c.parts_are_buffered.ensures.none written) in
    let far = c.in_ok-begun.ensures.ok written way in
    let line : begun_by far.texts ++ c.as_bytes.result.now ≡ report_of far.texts =
    ap (λ (e : List ℕ). begun_by far.texts ++ e) (c.as_bytes.ensures.value ∙ c.end_of-end.ensures ∙ ap report_end far.begun_is) ∙ report-whole far.texts in (
      report_of far.texts,
      report c.args.moment rows hits c.args.hunter.now hunts far.texts far.reports,
      c.in_ok-write.ensures.all (begun_by far.texts ++ c.as_bytes.result.now) written (c.in_ok-add.ensures.ok (begun_by far.texts) written far.way)
          ∙ ap (λ (t : List ℕ). written_with t written) line,
    )
