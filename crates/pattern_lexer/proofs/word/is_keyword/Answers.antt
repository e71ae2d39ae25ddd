use Rattle.pattern_lexer.specs.Word.{keywords}
use Rattle.pattern_lexer.proofs.ContainsLemmas.{contains_text}
use Rattle.pattern_lexer.proofs.word.is_keyword.Goals as goal

pub returns : goal.returns
returns c = contains_text keywords c.args.text.now c.contains.result c.contains.ensures.value
