use Rattle.stix_json.specs.DataOf.{data_of}
use Rattle.stix_bundles.specs.Objects.{data_in}
use Rattle.hunt_index.specs.inner.Indexed.{IsSeen}
use Rattle.hunt_index.specs.inner.Finding.{IsSeenBy}
use Rattle.hunt_index.proofs.ListLemmas.{on_follows}
use Rattle.hunt_index.proofs.LookupLemmas.{asks_root, only_weaker, seen_root}
use Rattle.hunt_index.proofs.finder.Finder.add_lookups.Goals as goal

pub returns-clause-asks : goal.returns-clause-asks
returns-clause-asks c =
    on_follows c.add_by_paths.result
    (λ asks. asks_root c.args.self.now (data_in c.args.bundle.now) c.args.root (data_of c.in-Some.object.now) c.in-Some-kind_of.kind c.find-paths.result.now c.add_by_paths.new.lookups.items
    c.in-Some.ensures.value c.in-Some-kind_of.ensures c.find-paths.ensures.all asks) c.add_by_paths.ensures.asks

pub returns-clause-only : goal.returns-clause-only
returns-clause-only c =
    let paths = c.args.self.now.paths.items in
    let objects = data_in c.args.bundle.now in
    let from = data_of c.in-Some.object.now in
    let entries = c.find-paths.result.now in
    on_follows c.add_by_paths.result
    (only_weaker (IsSeenBy paths objects from entries) (IsSeen paths objects c.args.root) c.args.lookups.now.items c.add_by_paths.new.lookups.items
    (seen_root paths objects c.args.root from c.in-Some-kind_of.kind c.args.self.now.kinds.entries.items entries c.in-Some.ensures.value c.in-Some-kind_of.ensures c.requires
    c.find-paths.ensures.only c.find-paths.ensures.keyed)) c.add_by_paths.ensures.only
