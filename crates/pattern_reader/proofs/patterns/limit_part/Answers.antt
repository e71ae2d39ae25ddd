use Rattle.pattern_reader.proofs.PartLemmas.{limited_ok, limited_err}
use Rattle.pattern_reader.proofs.patterns.limit_part.Goals as goal

pub returns-in_ok-whole-in-Ok-clause-part : goal.returns-in_ok-whole-in-Ok-clause-part
returns-in_ok-whole-in-Ok-clause-part c = λ p x. limited_ok c.args.text.now p c.args.qualifier c.args.part c.limit_of.result c.ok_or-found.result c.both.result c.in-Ok.part c.in-Ok.found _ (rw c.limit_refusal.ensures at c.ok_or-found.ensures.value) c.in-Ok.is c.both.ensures c.limit_of.ensures (c.in_ok-whole-in-Ok.ensures.part c.args.text.now p c.args.qualifier) x

pub returns-in-Err-clause-part : goal.returns-in-Err-clause-part
returns-in-Err-clause-part c = λ p x. limited_err c.args.text.now p c.args.qualifier c.args.part c.limit_of.result c.ok_or-found.result c.both.result c.in-Err.refusal (rw c.limit_refusal.ensures at c.ok_or-found.ensures.value) c.in-Err.is c.both.ensures c.limit_of.ensures x
