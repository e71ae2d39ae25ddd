use Rattle.std.proofs.Common.{take}
use Rattle.taxii_store.specs.Picks.{HasPicks}
use Rattle.taxii_store.proofs.pick_set.PickSet.of.Given as goal

abbrev pub invariant-loop-pick : goal.invariant-loop-pick
invariant-loop-pick l = HasPicks (take l.pick-index l.picks) l.set
