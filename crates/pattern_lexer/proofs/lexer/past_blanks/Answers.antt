use Rattle.pattern_lexer.proofs.AreTokensLemmas.{passed}
use Rattle.pattern_lexer.proofs.lexer.past_blanks.Goals as goal

pub returns : goal.returns
returns c = passed c.args.text.now c.as_bytes.result.now c.args.at c.split_run.result.0.now c.split_run.result.1.now c.as_bytes.ensures.value c.requires c.split_run.ensures
