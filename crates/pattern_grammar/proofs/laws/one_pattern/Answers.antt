use Rattle.pattern_grammar.proofs.OneTreeLemmas.{one_tree}
use Rattle.pattern_grammar.proofs.laws.one_pattern.Goals as goal

pub returns : goal.returns
returns c = λ ts p q x y. one_tree x y
