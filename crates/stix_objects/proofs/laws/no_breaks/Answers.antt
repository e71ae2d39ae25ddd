use Rattle.stix_objects.proofs.SoundLemmas.{is_met, is_named, is_timed}
use Rattle.stix_objects.proofs.laws.no_breaks.Goals as goal

pub returns-clause-rows : goal.returns-clause-rows
returns-clause-rows c = λ value none. (is_met value none).rows

pub returns-clause-named : goal.returns-clause-named
returns-clause-named c = λ value none. is_named value (is_met value none)

pub returns-clause-observed : goal.returns-clause-observed
returns-clause-observed c = λ value none is. is_timed value (is_met value none) is
