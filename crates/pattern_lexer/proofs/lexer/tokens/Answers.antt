use Rattle.std.proofs.Common.{sym, subst}
use Rattle.pattern_lexer.specs.inner.Steps.{ReadUpTo, ReadsAt}
use Rattle.pattern_lexer.proofs.AreTokensLemmas.{read_nothing, read_one, read_fault}
use Rattle.pattern_lexer.proofs.lexer.tokens.Goals as goal

pub loop-at-init : goal.loop-at-init
loop-at-init c = subst (λ tokens. ReadUpTo c.args.text.now tokens c.past_blanks-at.result) (sym c.new-tokens.ensures) (read_nothing c.args.text.now c.past_blanks-at.result c.past_blanks-at.ensures)

pub loop-at-preserved : goal.loop-at-preserved
loop-at-preserved c =
    subst (λ tokens. ReadUpTo c.args.text.now tokens c.past_blanks-at-in-Ok.result) (sym c.in_ok-push-in-Ok.ensures.ok)
    (read_one c.args.text.now c.loop-at.tokens c.loop-at.at c.past_blanks-at-in-Ok.result c.in-Ok.token c.loop-at.invariant (subst (ReadsAt c.args.text.now c.loop-at.at) c.in-Ok.is c.in_ok-token.ensures) c.past_blanks-at-in-Ok.ensures)

pub returns-in-Err : goal.returns-in-Err
returns-in-Err c =
    read_fault c.args.text.now c.loop-at.tokens c.loop-at.at c.in-Err.refusal c.loop-at-test.true c.loop-at.invariant
    (subst (ReadsAt c.args.text.now c.loop-at.at) c.in-Err.is c.in_ok-token.ensures)
