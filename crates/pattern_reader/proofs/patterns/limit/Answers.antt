use Rattle.pattern_reader.proofs.PartLemmas.{if_ok, narrow_limited, wide_limited}
use Rattle.pattern_reader.proofs.patterns.limit.Goals as goal

pub returns-in-Some-clause-part : goal.returns-in-Some-clause-part
returns-in-Some-clause-part c = if_ok _ _ c.limited.result (λ w h text p q x y. narrow_limited text p q c.args.limit c.in-Some.part w h (rw c.in-Some.is at x) y) c.limited.ensures

pub returns-in-None-clause-part : goal.returns-in-None-clause-part
returns-in-None-clause-part c = λ text p q x y. wide_limited text p q c.args.limit (rw c.in-None.is at x) y
