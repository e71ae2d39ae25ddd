use Rattle.std.proofs.Common.{◌++◌, ap, sym, ◌∙◌, lit<}
use Rattle.std.proofs.lemmas.Str.Pattern.{strip_suffix_char}
use Rattle.pattern_lexer.proofs.QuotedLemmas.{found, missing}
use Rattle.pattern_lexer.proofs.values.inside.Goals as goal

pub returns-clause-some : goal.returns-clause-some
returns-clause-some c =
    let opens = c.in_ok-strip_prefix.ensures.cases in
    found _ c.args.opening.now _ _ (opens.1.1 ∙ ap (λ l. c.args.opening.now ++ l) (sym opens.2)) (strip_suffix_char 39 _ _ c.strip_suffix.ensures.cases (lit< tt))

pub returns-clause-none : goal.returns-clause-none
returns-clause-none c =
    let opens = c.in_ok-strip_prefix.ensures.cases in
    missing _ c.args.opening.now _ _ (opens.1.1 ∙ ap (λ l. c.args.opening.now ++ l) (sym opens.2)) (strip_suffix_char 39 _ _ c.strip_suffix.ensures.cases (lit< tt))
