use Rattle.std.proofs.Common.{sym, subst}
use Rattle.pattern_grammar.specs.Depth.{IsShallow}
use Rattle.pattern_grammar.proofs.DepthLemmas.{take_through, through_shallow, syntax_at, deep_empty, deep_spelled}
use Rattle.pattern_grammar.proofs.read.refusal_through.Goals as goal

pub parse-requires : goal.parse-requires
parse-requires c = subst IsShallow (sym (take_through c.args.tokens.now c.args.before c.requires.deep)) (through_shallow c.requires.deep.0)

pub returns-in-Err-Syntax-empty : goal.returns-in-Err-Syntax-empty
returns-in-Err-Syntax-empty c = λ end. deep_empty _ _ _ _ _ c.requires.deep c.in-Err-Syntax-empty.ensures.err c.in-Err-Syntax-empty.field-0-is c.in-Err-Syntax-empty.len_below

pub returns-in-Err-Syntax-len1-up : goal.returns-in-Err-Syntax-len1-up
returns-in-Err-Syntax-len1-up c = syntax_at _ _ _ _ _ c.requires.deep c.in-Err-Syntax-len1-up.ensures.err c.in-Err-Syntax-len1-up.field-0-is c.in-Err-Syntax-len1-up.len_at_least

pub returns-in-Ok : goal.returns-in-Ok
returns-in-Ok c = λ end. deep_spelled _ _ _ _ c.requires.deep c.in-Ok.ensures.ok
