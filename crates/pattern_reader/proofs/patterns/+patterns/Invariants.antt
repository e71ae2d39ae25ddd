use Rattle.std.proofs.Common.{map, take}
use Rattle.pattern_grammar.specs.Tree.{Tree, left_fold, shape}
use Rattle.pattern_reader.specs.inner.NarrowPattern.{IsNarrowPart, IsPartOutcome}
use Rattle.pattern_reader.specs.inner.NarrowPattern.{tree_by}
use Rattle.pattern_reader.proofs.patterns.+patterns.Given as goal

abbrev pub invariant-chain_of-loop-other : goal.invariant-chain_of-loop-other
invariant-chain_of-loop-other l = record {
  narrow : IsNarrowPart l.whole;
  part : (p : Tree) → IsPartOutcome l.text p l.initial.whole → IsPartOutcome l.text (left_fold (tree_by l.operator) p (map shape (take l.other-index l.others))) l.whole;
}
