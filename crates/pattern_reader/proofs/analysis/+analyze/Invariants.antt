use Rattle.std.proofs.Common.{map, take}
use Rattle.pattern_grammar.specs.declared.comparison.ComparisonTree.{out-ComparisonTree}
use Rattle.pattern_grammar.specs.Tree.{left_fold, all, any, operand, conjunction}
use Rattle.pattern_reader.specs.inner.Analysis.{IsChain, AreRootedOperands, AreAny}
use Rattle.pattern_reader.proofs.analysis.+analyze.Given as goal

abbrev pub invariant-analyze_conjunction-loop-other : goal.invariant-analyze_conjunction-loop-other
invariant-analyze_conjunction-loop-other l = IsChain AreRootedOperands l.text (left_fold all (operand l.tree.first) (map operand (take l.other-index l.tree.others))) l.chain

abbrev pub invariant-analyze-loop-other : goal.invariant-analyze-loop-other
invariant-analyze-loop-other l = IsChain AreAny l.text (left_fold any (conjunction (out-ComparisonTree l.tree).first) (map conjunction (take l.other-index (out-ComparisonTree l.tree).others))) l.chain
