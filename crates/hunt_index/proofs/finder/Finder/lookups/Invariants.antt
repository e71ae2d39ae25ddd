use Rattle.std.proofs.Common.{take}
use Rattle.stix_bundles.specs.Objects.{data_in}
use Rattle.hunt_index.specs.inner.Finding.{AreAsked, AreSeen}
use Rattle.hunt_index.proofs.finder.Finder.lookups.Given as goal

abbrev pub invariant-loop-root : goal.invariant-loop-root
invariant-loop-root l = AreAsked l.self (data_in l.bundle) (take l.root-index l.roots) l.lookups.items
    × AreSeen l.self.paths.items (data_in l.bundle) l.roots l.lookups.items
