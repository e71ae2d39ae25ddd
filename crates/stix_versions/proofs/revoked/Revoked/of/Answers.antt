use Rattle.std.proofs.Common.{arith, ◌≡◌, ◌+◌, length, subst, sym}
use Rattle.stix_bundles.specs.Objects.{data_in}
use Rattle.stix_versions.specs.declared.revoked.Revoked.{Revoked}
use Rattle.stix_versions.specs.inner.FirstVersions.{AreRevokedBefore}
use Rattle.stix_versions.proofs.RevokedLemmas.{revoked_past}
use Rattle.stix_versions.proofs.revoked.Revoked.of.Goals as goal
use Rattle.stix_versions.proofs.revoked.Revoked.of.Goals.{in-Some+in_ok-add, in_default}

pub loop-at-preserved : goal.loop-at-preserved
loop-at-preserved c =
    let objects = data_in c.args.bundle.now in
    let at = c.loop-at.at in
    elim c.match-revoked_at.branch [
      | in-Some+in_ok-add w ↦
          let more = w.in_ok-add.ensures objects at w.in-Some.ensures.some c.loop-at.invariant in
          subst (λ (kept : Revoked). AreRevokedBefore objects (at + 1) kept) (sym w.revoked-is) more
      | in_default w ↦
          subst (λ (kept : Revoked). AreRevokedBefore objects (at + 1) kept) (sym w.revoked-is)
          (revoked_past objects at c.loop-at.revoked w.in_default.ensures.none c.loop-at.invariant)
    ]

pub returns : goal.returns
returns c =
    let end : c.loop-at.at ≡ length c.args.bundle.now = omega arith in
    subst (λ n. AreRevokedBefore (data_in c.args.bundle.now) n c.loop-at.revoked) end c.loop-at.invariant
