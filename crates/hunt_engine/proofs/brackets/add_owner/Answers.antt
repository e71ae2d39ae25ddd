use Rattle.std.proofs.Common.{rules}
use Rattle.hunt_engine.proofs.PositionLemmas.{owner_more}
use Rattle.hunt_engine.proofs.brackets.add_owner.Goals as goal

pub loop-preserved : goal.loop-preserved
loop-preserved c = search (rules, owner_more)
