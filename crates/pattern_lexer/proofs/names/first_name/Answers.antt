use Rattle.pattern_lexer.proofs.LongestTokenLemmas.{name_first, run_name}
use Rattle.pattern_lexer.proofs.names.first_name.Goals as goal

pub kind_of_name-requires : goal.kind_of_name-requires
kind_of_name-requires c = run_name c.args.bytes.now c.split_run.result.0.now c.split_run.result.1.now c.split_run.ensures c.requires

pub returns : goal.returns
returns c = name_first c.args.bytes.now c.split_run.result.0.now c.split_run.result.1.now c.kind_of_name.result c.split_run.ensures c.requires c.in_default.ensures.none c.kind_of_name.ensures
