use Rattle.std.proofs.Common.{◌++◌, ℕ, List, append_assoc, subst, ◌∙◌}
use Rattle.flow_edges.specs.Flow.{WritesPrefix}
use Rattle.match_run.proofs.PendingLemmas.{fails_so, prefix-more}
use Rattle.match_run.specs.Buffered.{IsBuffered}
use Rattle.hunt_report.specs.inner.Reporting.{mark_of}
use Rattle.hunt_report.proofs.report.add_text.Goals as goal

pub returns-in_err-add-clause-err : goal.returns-in_err-add-clause-err
returns-in_err-add-clause-err g c before first way =
    let text = c.args.text.now in
    let mark = mark_of c.args.begun in
    let written = g.O.Sink.written c.add.new.output in
    fails_so c.from_residual.result (subst (λ (t : List ℕ). WritesPrefix t first written) (append_assoc before mark text)
    (prefix-more (before ++ mark) text first written
    (subst (λ (m : List ℕ). WritesPrefix (before ++ m) first written) (c.as_bytes.ensures.value ∙ c.mark_of-mark.ensures) (c.in_err-add.ensures.err before first way))))

pub returns-in_err-add-2-clause-err : goal.returns-in_err-add-2-clause-err
returns-in_err-add-2-clause-err g c before first way =
    let text = c.args.text.now in
    let mark = mark_of c.args.begun in
    let written = g.O.Sink.written c.add-2.new.output in
    fails_so c.from_residual-in_err-add-2.result (subst (λ (t : List ℕ). WritesPrefix t first written) (append_assoc before mark text)
    (subst (λ (m : List ℕ). WritesPrefix ((before ++ mark) ++ m) first written) c.as_bytes-2.ensures.value
    (subst (λ (m : List ℕ). WritesPrefix ((before ++ m) ++ c.as_bytes-2.result.now) first written) (c.as_bytes.ensures.value ∙ c.mark_of-mark.ensures)
    (c.in_err-add-2.ensures.err (before ++ c.as_bytes.result.now) first (c.in_ok-add.ensures.ok before first way)))))

pub returns-clause-ok : goal.returns-clause-ok
returns-clause-ok g c before first way =
    let text = c.args.text.now in
    let mark = mark_of c.args.begun in
    let written = g.O.Sink.written c.add-2.new.output in
    let pending = c.add-2.new.self in
    subst (λ (t : List ℕ). IsBuffered t pending first written) (append_assoc before mark text)
    (subst (λ (m : List ℕ). IsBuffered ((before ++ mark) ++ m) pending first written) c.as_bytes-2.ensures.value
    (subst (λ (m : List ℕ). IsBuffered ((before ++ m) ++ c.as_bytes-2.result.now) pending first written) (c.as_bytes.ensures.value ∙ c.mark_of-mark.ensures)
    (c.in_ok-add-2.ensures.ok (before ++ c.as_bytes.result.now) first (c.in_ok-add.ensures.ok before first way))))
