use Rattle.pattern_reader.proofs.PartLemmas.{leaf_outcome}
use Rattle.pattern_reader.proofs.patterns.leaf_part.Goals as goal

pub returns-in-Ok-clause-part : goal.returns-in-Ok-clause-part
returns-in-Ok-clause-part c = leaf_outcome c.args.text.now _ c.in-Ok.leaf c.leaf.result c.in_ok-leaf.field-0.leaf c.in-Ok.is c.leaf.ensures.pattern c.leaf.ensures.narrow c.in_ok-leaf.ensures.leaf
