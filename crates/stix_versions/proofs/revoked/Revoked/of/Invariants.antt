use Rattle.stix_bundles.specs.Objects.{data_in}
use Rattle.stix_versions.specs.inner.FirstVersions.{AreRevokedBefore}
use Rattle.stix_versions.proofs.revoked.Revoked.of.Given as goal

abbrev pub invariant-loop-at : goal.invariant-loop-at
invariant-loop-at l = AreRevokedBefore (data_in l.bundle) l.at l.revoked
