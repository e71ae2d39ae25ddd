use Rattle.pattern_reader.proofs.PartLemmas.{if_ok, left_wide}
use Rattle.pattern_reader.proofs.patterns.join.Goals as goal

pub returns-in-Some-clause-part : goal.returns-in-Some-clause-part
returns-in-Some-clause-part c = if_ok _ _ c.join_narrow.result (λ w h text p q x y. h text p q (rw c.in-Some.is at x) y) c.join_narrow.ensures.part

pub returns-in-None-clause-part : goal.returns-in-None-clause-part
returns-in-None-clause-part c = λ text p q x y. left_wide text c.args.operator p q c.args.right (rw c.in-None.is at x) y
