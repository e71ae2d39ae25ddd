use Rattle.std.proofs.Common.{None, lit<}
use Rattle.std.proofs.lemmas.Str.Pattern.{strip_prefix_char}
use Rattle.pattern_lexer.proofs.UnescapedLemmas.{begins_none}
use Rattle.pattern_lexer.proofs.unescape.escaped_first.Goals as goal

pub returns-in_err-more-clause-none : goal.returns-in_err-more-clause-none
returns-in_err-more-clause-none c =
    rw c.from_residual.ensures (begins_none c.args.text.now (strip_prefix_char 39 c.args.text.now None c.in_default.ensures.cases (lit< tt)) (strip_prefix_char 92 c.args.text.now None c.in_err-more.ensures.cases (lit< tt)))
