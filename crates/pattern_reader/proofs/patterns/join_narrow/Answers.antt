use Rattle.pattern_reader.proofs.PartLemmas.{if_ok, both_narrow, right_wide}
use Rattle.pattern_reader.proofs.patterns.join_narrow.Goals as goal

pub returns-in-Some-clause-part : goal.returns-in-Some-clause-part
returns-in-Some-clause-part c = if_ok _ _ c.joined.result (λ w h text p q x y. both_narrow text c.args.operator p q c.args.left c.in-Some.right w h x (rw c.in-Some.is at y)) c.joined.ensures

pub returns-in-None-clause-part : goal.returns-in-None-clause-part
returns-in-None-clause-part c = λ text p q x y. right_wide text c.args.operator p q c.args.left x (rw c.in-None.is at y)
