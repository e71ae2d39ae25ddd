use Rattle.pattern_grammar.proofs.DepthLemmas.{syntax_none}
use Rattle.pattern_grammar.proofs.read.read_tree.Goals as goal

pub returns-in-Err-Syntax : goal.returns-in-Err-Syntax
returns-in-Err-Syntax c = syntax_none _ _ _ _ c.in-Err-Syntax.ensures.err c.in-Err-Syntax.field-0-is c.in_default.ensures.none c.start_of-at.ensures
