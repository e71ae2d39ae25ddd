use Rattle.std.proofs.Common.{◌++◌, Ok, Err, codes}
use Rattle.flow_edges.specs.Flow.{WritesWhole}
use Rattle.pattern_reader.specs.PatternRefusal.{pattern_refusal_text}
use Rattle.command_reasons.specs.Reasons.{pattern_reason}
use Rattle.command_reasons.proofs.WritesWholeLemmas.{after_whole, front_part, after_part, writes_whole-err}
use Rattle.command_reasons.proofs.reasons.write_pattern_reason.Goals as goal

pub returns-in_err-write_whole-clause-text : goal.returns-in_err-write_whole-clause-text
returns-in_err-write_whole-clause-text g c = writes_whole-err (pattern_reason c.args.refusal.now) _ _ c.from_residual.result c.from_residual.ensures.0
    (front_part (codes "pattern refused: ") (pattern_refusal_text c.args.refusal.now ++ codes "\n") _ _ c.in_err-write_whole.ensures.text)

pub returns-in_err-write_refusal-clause-text : goal.returns-in_err-write_refusal-clause-text
returns-in_err-write_refusal-clause-text g c = writes_whole-err (pattern_reason c.args.refusal.now) _ _ c.from_residual-in_err-write_refusal.result c.from_residual-in_err-write_refusal.ensures.0
    (after_part (codes "pattern refused: ") (pattern_refusal_text c.args.refusal.now ++ codes "\n") _ _ _ c.in_ok-write_whole.ensures.text (front_part (pattern_refusal_text c.args.refusal.now) (codes "\n") _ _ c.in_err-write_refusal.ensures.text))

pub returns-clause-text : goal.returns-clause-text
returns-clause-text g c =
    elim c.write_whole-2.result as (λ r. WritesWhole (codes "\n") (g.S.Sink.written c.write_refusal.new.sink) (g.S.Sink.written c.write_whole-2.new.sink) r → WritesWhole (pattern_reason c.args.refusal.now) (g.S.Sink.written c.args.reasons.now) (g.S.Sink.written c.write_whole-2.new.sink) r) [
      | Ok done ↦ λ h. after_whole (codes "pattern refused: ") (pattern_refusal_text c.args.refusal.now ++ codes "\n") _ _ _ c.in_ok-write_whole.ensures.text (after_whole (pattern_refusal_text c.args.refusal.now) (codes "\n") _ _ _ c.in_ok-write_refusal.ensures.text h)
      | Err fault ↦ λ h. after_part (codes "pattern refused: ") (pattern_refusal_text c.args.refusal.now ++ codes "\n") _ _ _ c.in_ok-write_whole.ensures.text (after_part (pattern_refusal_text c.args.refusal.now) (codes "\n") _ _ _ c.in_ok-write_refusal.ensures.text h)
    ] c.write_whole-2.ensures.text
