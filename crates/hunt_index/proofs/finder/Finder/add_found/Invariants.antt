use Rattle.std.proofs.Common.{take}
use Rattle.hunt_index.specs.inner.Finding.{AddsFound}
use Rattle.hunt_index.proofs.finder.Finder.add_found.Given as goal

abbrev pub invariant-loop-lookup : goal.invariant-loop-lookup
invariant-loop-lookup l = AddsFound l.self.brackets_found.entries.items (take l.lookup-index l.lookups) l.fn.brackets_found.items l.brackets_found.items
