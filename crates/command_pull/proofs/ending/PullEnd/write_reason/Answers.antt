use Rattle.std.proofs.Common.{Ok, Err}
use Rattle.flow_edges.specs.Flow.{WritesWhole}
use Rattle.command_pull.specs.Endings.{pull_reason, skipped_count_text, end_reason}
use Rattle.command_reasons.proofs.WritesWholeLemmas.{after_whole, after_part}
use Rattle.command_pull.proofs.ending.PullEnd.write_reason.Goals as goal

pub returns-clause-text : goal.returns-clause-text
returns-clause-text g c =
    let end = c.args.self.now in
    elim c.write_reason.result as (λ r. WritesWhole (pull_reason end.ending) (g.S.Sink.written c.write_skipped.new.reasons) (g.S.Sink.written c.write_reason.new.reasons) r → WritesWhole (end_reason end) (g.S.Sink.written c.args.reasons.now) (g.S.Sink.written c.write_reason.new.reasons) r) [
      | Ok done ↦ λ h. after_whole (skipped_count_text end.skipped) (pull_reason end.ending) _ _ _ c.in_ok-write_skipped.ensures.text h
      | Err fault ↦ λ h. after_part (skipped_count_text end.skipped) (pull_reason end.ending) _ _ _ c.in_ok-write_skipped.ensures.text h
    ] c.write_reason.ensures.text
