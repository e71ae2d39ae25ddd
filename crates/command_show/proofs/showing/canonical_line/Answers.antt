use Rattle.std.proofs.lemmas.Result.{IfOk-weaker}
use Rattle.command_show.proofs.showing.canonical_line.Goals as goal

pub returns-in-Err-clause-err : goal.returns-in-Err-clause-err
returns-in-Err-clause-err c = λ other. record {
  unread = λ pattern read. c.none_refused.ensures _ pattern _ read (c.in-Err.ensures.err other);
  why = c.in-Err.ensures.err other;
}

pub returns-in-Ok-clause-ok : goal.returns-in-Ok-clause-ok
returns-in-Ok-clause-ok c = IfOk-weaker c.line_of-line.result _ _ (λ line is. record { pattern = c.in-Ok.read; read = c.in-Ok.ensures.ok; line_is = is }) c.line_of-line.ensures.ok
