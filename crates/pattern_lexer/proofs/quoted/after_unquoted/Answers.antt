use Rattle.pattern_lexer.proofs.LongestTokenLemmas.{unquoted_some, unquoted_none}
use Rattle.pattern_lexer.proofs.quoted.after_unquoted.Goals as goal

pub returns-clause-some : goal.returns-clause-some
returns-clause-some c = unquoted_some c.args.quoted.now c.split_run.result.0.now c.split_run.result.1.now c.strip_byte.result c.split_run.ensures c.strip_byte.ensures.some

pub returns-clause-none : goal.returns-clause-none
returns-clause-none c = unquoted_none c.args.quoted.now c.split_run.result.0.now c.split_run.result.1.now c.strip_byte.result c.split_run.ensures c.strip_byte.ensures.none
