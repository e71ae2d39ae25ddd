use Rattle.std.proofs.Common.{take}
use Rattle.stix_bundles.specs.Objects.{data_in}
use Rattle.stix_versions.specs.Versions.{AreVersionBreaksFrom}
use Rattle.stix_versions.specs.inner.History.{AreVersionsBefore}
use Rattle.stix_versions.proofs.versions.version_breaks.Given as goal

abbrev pub invariant-loop-at : goal.invariant-loop-at
invariant-loop-at l = record {
  kept : AreVersionsBefore (data_in l.bundle) l.at l.seen;
  told : AreVersionBreaksFrom (data_in l.bundle) 0 (take l.at (data_in l.bundle)) l.found;
}
