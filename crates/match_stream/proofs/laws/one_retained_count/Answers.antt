use Rattle.match_stream.proofs.CountLemmas.{one_count}
use Rattle.match_stream.proofs.laws.one_retained_count.Goals as goal

pub returns : goal.returns
returns c = one_count c.test_is_the_rule.ensures
