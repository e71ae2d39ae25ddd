use Rattle.pattern_reader.proofs.AllZipLemmas.{no_step}
use Rattle.pattern_reader.proofs.paths.step_of.Goals as goal

pub returns-in-None : goal.returns-in-None
returns-in-None c = rw c.in-Name.is (no_step _ _ (rw c.in-None.is at c.in_ok-name-in-Name.ensures))
