use Rattle.match_run.specs.inner.MatchEnds.{HasCutLines}
use Rattle.match_run.specs.inner.Rows.{so_far}
use Rattle.match_run.specs.Reading.{bundle_of}
use Rattle.match_run.proofs.PendingLemmas.{on_ok}
use Rattle.match_run.proofs.RowsLemmas.{batch-rows, batch-cut, batch-ends, batch-fault}
use Rattle.match_run.proofs.batch.match_batch.Goals as goal

pub returns-in_err-write_pending-clause-end : goal.returns-in_err-write_pending-clause-end
returns-in_err-write_pending-clause-end g c =
    let bundle = bundle_of c.args.batch.now in
    let run = so_far c.args.matcher.now c.args.tally.now in
    let after = so_far c.answer_all-ended.new.matcher c.answer_all-ended.new.tally in
    let uncut : ¬ HasCutLines c.answer_all-ended.result = λ cut. let yes = c.has_cut_lines.ensures.1 cut in let no = c.if-has_cut_lines.false in cc in
    batch-fault bundle run c.answer_all-ended.new.matcher _ _ c.from_residual.result c.in_err-write_pending.field-0.0 c.from_residual.ensures.1 c.in_err-write_pending.ensures.end
    (batch-cut bundle run after c.answer_all-ended.new.pending.items _ _ c.answer_all-ended.result _ c.answer_all-ended.ensures.rows c.answer_all-ended.ensures.end uncut
    c.in_err-write_pending.ensures.err)

pub returns-clause-rows : goal.returns-clause-rows
returns-clause-rows g c =
    let bundle = bundle_of c.args.batch.now in
    let run = so_far c.args.matcher.now c.args.tally.now in
    let after = so_far c.answer_all-ended.new.matcher c.answer_all-ended.new.tally in
    on_ok c.answer_all-ended.result
    (λ goes. batch-rows bundle run after c.answer_all-ended.new.pending.items _ _ _ goes c.in_ok-write_pending.ensures.ok.1) c.answer_all-ended.ensures.rows

pub returns-clause-end : goal.returns-clause-end
returns-clause-end g c =
    let bundle = bundle_of c.args.batch.now in
    let run = so_far c.args.matcher.now c.args.tally.now in
    let after = so_far c.answer_all-ended.new.matcher c.answer_all-ended.new.tally in
    let uncut : ¬ HasCutLines c.answer_all-ended.result = λ cut. let yes = c.has_cut_lines.ensures.1 cut in let no = c.if-has_cut_lines.false in cc in
    batch-ends bundle run after c.answer_all-ended.new.pending.items _ _ c.answer_all-ended.result _ c.answer_all-ended.ensures.end uncut c.in_ok-write_pending.ensures.ok.1
