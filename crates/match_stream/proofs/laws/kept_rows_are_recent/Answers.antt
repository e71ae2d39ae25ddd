use Rattle.match_stream.proofs.WithinLemmas.{kept_recent}
use Rattle.match_stream.proofs.laws.kept_rows_are_recent.Goals as goal

pub returns : goal.returns
returns c = kept_recent c.test_is_the_rule.ensures
