use Rattle.std.proofs.Common.{take}
use Rattle.stix_json.specs.DataOf.{data_of}
use Rattle.stix_bundles.specs.Objects.{data_in}
use Rattle.hunt_index.specs.inner.Finding.{KeepsLookups, AskByPaths, AddsOnly, IsSeenBy}
use Rattle.hunt_index.proofs.finder.Finder.add_by_paths.Given as goal

abbrev pub invariant-loop-number : goal.invariant-loop-number
invariant-loop-number l = KeepsLookups l.fn.lookups.items l.lookups.items
    × AskByPaths l.self.paths.items (data_in l.bundle) (data_of l.object) (take l.number-index l.paths) l.lookups.items
    × AddsOnly (IsSeenBy l.self.paths.items (data_in l.bundle) (data_of l.object) l.paths) l.fn.lookups.items l.lookups.items
