use Rattle.std.proofs.KnownBytes.{Keeps-trans}
use Rattle.flow_edges.proofs.system.uninterrupted.write_uninterrupted.Goals as goal

pub loop-preserved : goal.loop-preserved
loop-preserved g c = Keeps-trans _ _ _ c.loop.invariant c.in-Err.ensures.bytes

pub returns-in_default-clause-bytes : goal.returns-in_default-clause-bytes
returns-in_default-clause-bytes g c = Keeps-trans _ _ _ c.loop.invariant c.in-Err.ensures.bytes

pub returns-clause-bytes : goal.returns-clause-bytes
returns-clause-bytes g c = c.loop.invariant
