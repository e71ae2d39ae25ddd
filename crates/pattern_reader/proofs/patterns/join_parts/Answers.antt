use Rattle.pattern_reader.proofs.PartLemmas.{joined_ok, joined_err}
use Rattle.pattern_reader.proofs.patterns.join_parts.Goals as goal

pub returns-in_ok-whole-in-Ok-clause-part : goal.returns-in_ok-whole-in-Ok-clause-part
returns-in_ok-whole-in-Ok-clause-part c = λ text p q x y. joined_ok text c.args.operator p q c.args.left c.args.right c.both.result c.in-Ok.left c.in-Ok.right _ c.in-Ok.is c.both.ensures (c.in_ok-whole-in-Ok.ensures.part text p q) x y

pub returns-in-Err-clause-part : goal.returns-in-Err-clause-part
returns-in-Err-clause-part c = λ text p q x y. joined_err text c.args.operator p q c.args.left c.args.right c.both.result c.in-Err.refusal c.in-Err.is c.both.ensures x y
