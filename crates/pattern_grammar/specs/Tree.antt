-- Syntax trees as plain inductive types. Chains of an operator associate to the left.
use Rattle.std.specs.Prelude.{List, [], ◌∷◌}
use Rattle.pattern_lexer.specs.declared.token.Token.{Token}
use Rattle.pattern_grammar.specs.declared.{qualifier.Qualifier.Qualifier, comparison.TestTree.TestTree}
use Rattle.pattern_grammar.specs.declared.comparison.ComparisonTree.{ComparisonTree, fold-ComparisonTree}
use Rattle.pattern_grammar.specs.declared.comparison.Operand.TheOpen.{ComparisonTree-F, Conjunction-F, Operand-F}
use Rattle.pattern_grammar.specs.declared.comparison.Conjunction.{Conjunction, fold-Conjunction}
use Rattle.pattern_grammar.specs.declared.comparison.Operand.{Operand, fold-Operand}
use Rattle.pattern_grammar.specs.declared.pattern.PatternTree.{PatternTree, fold-PatternTree, TheOpen.PatternTree-F}

-- the comparison expression in the brackets of a pattern
pub data Comparison : Type 0 where
  test : TestTree → Comparison
  group : Token → Comparison → Comparison
  all any : Comparison → Comparison → Comparison

-- a pattern
pub data Tree : Type 0 where
  leaf : Comparison → Tree
  both either followed : Tree → Tree → Tree
  qualified : Tree → Qualifier → Tree

-- a left fold of the operator
abbrev pub left_fold : {V : Type 0} → (V → V → V) → V → List V → V
left_fold join first [] = first
left_fold join first (next ∷ others) = left_fold join (join first next) others

-- one level, whose parts are converted already
abbrev pub comparison_level : ComparisonTree-F Comparison Comparison Comparison → Comparison
comparison_level tree = left_fold any tree.first tree.others

abbrev pub conjunction_level : Conjunction-F Comparison Comparison Comparison → Comparison
conjunction_level tree = left_fold all tree.first tree.others

abbrev pub operand_level : Operand-F Comparison Comparison Comparison → Comparison
operand_level (Operand-F.Test t) = test t
operand_level (Operand-F.Group round inside) = group round inside.value

abbrev pub compared : ComparisonTree → Comparison
compared = fold-ComparisonTree Comparison Comparison Comparison operand_level comparison_level conjunction_level

abbrev pub conjunction : Conjunction → Comparison
conjunction = fold-Conjunction Comparison Comparison Comparison operand_level comparison_level conjunction_level

abbrev pub operand : Operand → Comparison
operand = fold-Operand Comparison Comparison Comparison operand_level comparison_level conjunction_level

abbrev pub pattern_level : PatternTree-F Tree → Tree
pattern_level (PatternTree-F.Leaf c) = leaf (compared c)
pattern_level (PatternTree-F.Both first others) = left_fold both first.value others
pattern_level (PatternTree-F.Either first others) = left_fold either first.value others
pattern_level (PatternTree-F.Then first others) = left_fold followed first.value others
pattern_level (PatternTree-F.Qualified part qualifier) = qualified part.value qualifier

abbrev pub shape : PatternTree → Tree
shape = fold-PatternTree Tree pattern_level
