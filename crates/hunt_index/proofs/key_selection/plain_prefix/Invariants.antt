use Rattle.std.proofs.Common.{take}
use Rattle.hunt_index.specs.Definite.{ArePlain}
use Rattle.hunt_index.proofs.key_selection.plain_prefix.Given as goal

abbrev pub invariant-loop-at : goal.invariant-loop-at
invariant-loop-at l = ArePlain (take l.at l.steps)
