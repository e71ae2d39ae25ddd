use Rattle.hunt_engine.proofs.FollowLemmas.{represents_all}
use Rattle.hunt_engine.proofs.laws.lazy_matchers_represent_logs.Goals as goal

pub returns : goal.returns
returns c = represents_all
