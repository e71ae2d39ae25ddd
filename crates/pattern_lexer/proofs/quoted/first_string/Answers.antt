use Rattle.pattern_lexer.proofs.LongestTokenLemmas.{words_first, no_words}
use Rattle.pattern_lexer.proofs.quoted.first_string.Goals as goal

pub returns-in_err-after-clause-none : goal.returns-in_err-after-clause-none
returns-in_err-after-clause-none c =
    rw c.from_residual-in_err-after.ensures
    (no_words c.args.bytes.now c.in_ok-strip_byte.field-0.now c.in_ok-strip_byte.ensures.some c.in_err-after.ensures.none)

pub returns-clause-some : goal.returns-clause-some
returns-clause-some c =
    let h = c.in_ok-after.ensures.some in
    words_first c.args.bytes.now c.in_ok-strip_byte.field-0.now c.in_ok-after.after.now h.0 c.in_ok-strip_byte.ensures.some h.1
