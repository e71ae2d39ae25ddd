use Rattle.pattern_reader.proofs.LimitLemmas.{no_start, no_stop, no_span}
use Rattle.pattern_reader.proofs.limits.span_of.Goals as goal

pub returns-in_default : goal.returns-in_default
returns-in_default c = no_start c.args.text.now c.args.start c.args.from c.args.to c.in_default.ensures.none

pub returns-in_default-timestamp_at : goal.returns-in_default-timestamp_at
returns-in_default-timestamp_at c = no_stop c.args.text.now c.args.start c.args.from c.args.to c.in_default-timestamp_at.ensures.none

pub returns : goal.returns
returns c = no_span c.args.text.now c.args.start c.args.from c.args.to _ _ _ c.one_meaning.ensures.timestamp c.in-Some.ensures.some c.in-Some-timestamp_at.ensures.some c.is_before.ensures c.if-is_before.false
