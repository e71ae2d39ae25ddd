use Rattle.std.proofs.Common.{drop}
use Rattle.hunt_index.proofs.PartsLemmas.{StillAll, StillSome, StillSufficient}
use Rattle.hunt_index.proofs.key_selection.+leaves.Given as goal

abbrev pub invariant-index_keys_of_all-loop-part : goal.invariant-index_keys_of_all-loop-part
invariant-index_keys_of_all-loop-part l = StillAll l.parts (drop l.part-index l.parts) l.fewest

abbrev pub invariant-index_keys_of_some-loop-part : goal.invariant-index_keys_of_some-loop-part
invariant-index_keys_of_some-loop-part l = StillSome l.parts (drop l.part-index l.parts) l.index_keys.items × StillSufficient l.parts (drop l.part-index l.parts) l.index_keys.items
