use Rattle.std.proofs.Common.{sym, ◌∙◌}
use Rattle.pattern_grammar.proofs.ExitLemmas.{passed}
use Rattle.pattern_grammar.proofs.EndsAtLemmas.{syntax_error_in, syntax_error_rest, spells_whole}
use Rattle.pattern_grammar.proofs.parse_pattern.parse.Goals as goal

pub returns-in_err-tree-clause-err : goal.returns-in_err-tree-clause-err
returns-in_err-tree-clause-err c = passed _ _ _ c.from_residual.ensures.1 (syntax_error_in _ _ c.in_err-tree.ensures.err)

pub returns-then-not-is_empty-clause-err : goal.returns-then-not-is_empty-clause-err
returns-then-not-is_empty-clause-err c = syntax_error_rest _ c.in_ok-tree.ensures.ok (sym c.is_empty.ensures ∙ c.if-not-is_empty.true)

pub returns-clause-ok : goal.returns-clause-ok
returns-clause-ok c = spells_whole c.in_ok-tree.ensures.ok (sym c.is_empty.ensures ∙ c.if-not-is_empty.false)
