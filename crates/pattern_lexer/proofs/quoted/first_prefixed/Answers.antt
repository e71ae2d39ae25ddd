use Rattle.std.proofs.Common.{sym}
use Rattle.pattern_lexer.proofs.LongestTokenLemmas.{letter_first}
use Rattle.pattern_lexer.proofs.quoted.first_prefixed.Goals as goal

pub returns-clause-some : goal.returns-clause-some
returns-clause-some c =
    let h = c.in_ok-after.ensures.some in
    letter_first c.args.bytes.now c.in_ok-letter.more.now c.in_ok-strip_byte.field-0.now h.0 c.in_ok-after.after.now c.in_ok-letter.letter.now c.in_ok-kind.kind c.in_ok-letter.ensures.cases.0 c.in_ok-strip_byte.ensures.some (sym c.in_ok-kind.ensures) h.1 h.2
