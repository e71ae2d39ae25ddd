use Rattle.std.proofs.Common.{ℕ, subst}
use Rattle.pattern_types.specs.declared.pattern.Pattern.{Pattern}
use Rattle.match_input.specs.declared.mode.Mode.{Mode}
use Rattle.match_run.specs.Matching.{AnswersMatch}
use Rattle.command_match.specs.Tasks.{mode_of}
use Rattle.flow_edges.specs.Streams.{streams}
use Rattle.command_reasons.proofs.CountedLemmas.{counted-when}
use Rattle.command_match.proofs.StatusLemmas.{read_fault-status, write_fault-status}
use Rattle.command_match.proofs.matching.match_pattern.Goals as goal

pub returns-clause-end : goal.returns-clause-end
returns-clause-end g c =
    let mode = mode_of c.args.request.whole in
    let before = streams (g.I.Source.left c.args.input.now) (g.I.Source.began c.args.input.now) (g.O.Sink.written c.args.output.now) in
    let after = streams (g.I.Source.left c.match_stream-end.new.input) (g.I.Source.began c.match_stream-end.new.input) (g.O.Sink.written c.match_stream-end.new.output) in
    let state = c.match_stream-end.new.matcher in
    let of_mode = subst (λ (m : Mode). AnswersMatch m c.in-Ok.matcher.pattern c.in-Ok.matcher.retained_limit before after state c.match_stream-end.result)
    c.mode_of.ensures c.match_stream-end.ensures.end in
    let of_pattern = subst (λ (p : Pattern). AnswersMatch mode p c.in-Ok.matcher.retained_limit before after state c.match_stream-end.result) c.in-Ok.ensures.pattern of_mode in
    record {
      pattern = c.args.pattern.now;
      read = c.requires;
      matcher = state;
      answers = subst (λ (n : ℕ). AnswersMatch mode c.args.pattern.now n before after state c.match_stream-end.result) c.in-Ok.ensures.retained_limit of_pattern;
    }

pub returns-clause-input : goal.returns-clause-input
returns-clause-input g c = counted-when (read_fault-status _) c.match_stream-end.ensures.input

pub returns-clause-output : goal.returns-clause-output
returns-clause-output g c = counted-when (write_fault-status _) c.match_stream-end.ensures.output
