use Rattle.std.proofs.Common.{take}
use Rattle.stix_bundles.specs.Objects.{data_in}
use Rattle.hunt_feed.specs.Gathering.{GathersFor}
use Rattle.hunt_feed.proofs.bundle.hunt.Given as goal

abbrev pub invariant-loop-object : goal.invariant-loop-object
invariant-loop-object l = GathersFor l.gathering (data_in (take l.object-index l.object-items))
