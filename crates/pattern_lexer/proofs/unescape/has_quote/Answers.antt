use Rattle.std.proofs.Common.{lit<}
use Rattle.std.proofs.lemmas.Str.Pattern.{contains_char}
use Rattle.std.proofs.lemmas.List.{get_or_default}
use Rattle.std.proofs.Common.{◌∙◌}
use Rattle.pattern_lexer.proofs.unescape.has_quote.Goals as goal

pub returns : goal.returns
returns c =
    let text = c.args.text.now in
    let h = contains_char 39 text c.contains.result c.contains.ensures.cases (lit< tt) in (
      λ yes. let at = h.0 yes in (at.0, at.1, get_or_default text at.0 39 0 at.1 ∙ at.2),
      λ at. h.1 at.0 at.1 (get_or_default text at.0 0 39 at.1 ∙ at.2),
    )
