use Rattle.pattern_grammar.proofs.ExitLemmas.{passed, refused_in}
use Rattle.pattern_grammar.proofs.TestLemmas.{bracket_stuck, bracket_unclosed, bracket_found}
use Rattle.pattern_grammar.proofs.PatternLemmas.{leaf_none, leaf_brackets}
use Rattle.pattern_grammar.proofs.JoinedLemmas.{leaf_shape}
use Rattle.pattern_grammar.proofs.parse_pattern.leaf.Goals as goal

pub returns-in_default-clause-err : goal.returns-in_default-clause-err
returns-in_default-clause-err c = leaf_none c.requires c.in_default.ensures.none

pub returns-in_err-tree-clause-err : goal.returns-in_err-tree-clause-err
returns-in_err-tree-clause-err c = passed _ _ _ c.from_residual.ensures.1 (refused_in _ c.in_err-tree.ensures.err (λ r. bracket_stuck leaf_brackets _ c.in-Some.ensures.some))

pub returns-in_default-eat-clause-err : goal.returns-in_default-eat-clause-err
returns-in_default-eat-clause-err c = bracket_unclosed leaf_brackets _ c.in-Some.ensures.some c.in_ok-tree.ensures.ok c.in_default-eat.ensures.none

pub returns-clause-ok : goal.returns-clause-ok
returns-clause-ok c = rw leaf_shape (bracket_found leaf_brackets _ _ c.in-Some.ensures.some c.in_ok-tree.ensures.ok c.in-Some-eat.ensures.some)
