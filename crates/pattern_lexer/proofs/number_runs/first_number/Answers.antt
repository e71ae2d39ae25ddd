use Rattle.std.proofs.Common.{subst}
use Rattle.std.specs.Char.{IsAsciiDigit}
use Rattle.pattern_lexer.specs.inner.Steps.{IsRun}
use Rattle.pattern_lexer.proofs.LongestTokenLemmas.{number_first, no_number, is_none, is_some}
use Rattle.pattern_lexer.proofs.number_runs.first_number.Goals as goal

pub returns-then-is_empty-clause-none : goal.returns-then-is_empty-clause-none
returns-then-is_empty-clause-none c =
    let run = subst (λ l. IsRun IsAsciiDigit l c.split_run.result.0.now c.split_run.result.1.now) c.without_sign.ensures c.split_run.ensures in
    no_number c.args.bytes.now c.split_run.result.0.now c.split_run.result.1.now c.requires run (is_none c.split_run.result.0.now c.is_empty.result c.is_empty.ensures c.if-is_empty.true)

pub returns-clause-some : goal.returns-clause-some
returns-clause-some c =
    let run = subst (λ l. IsRun IsAsciiDigit l c.split_run.result.0.now c.split_run.result.1.now) c.without_sign.ensures c.split_run.ensures in
    number_first c.args.bytes.now c.split_run.result.0.now c.split_run.result.1.now c.requires run (is_some c.split_run.result.0.now c.is_empty.result c.is_empty.ensures c.if-is_empty.false)
