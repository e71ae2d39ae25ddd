use Rattle.std.proofs.lemmas.Bool.{false≢true}
use Rattle.std.proofs.Common.{sym, ◌∙◌}
use Rattle.stix_json.specs.DataOf.{data_of}
use Rattle.stix_bundles.specs.Objects.{data_in}
use Rattle.stix_versions.proofs.VersionLemmas.{object_there}
use Rattle.stix_versions.proofs.RevokedLemmas.{unrevoked_here, revoked_some, revoked_unversioned}
use Rattle.stix_versions.proofs.revoked.revoked_at.Goals as goal

pub returns-then-is_revoked-clause-some : goal.returns-then-is_revoked-clause-some
returns-then-is_revoked-clause-some c =
    let there = object_there c.args.bundle.now c.objects.result.now c.objects.ensures.value c.args.at c.index-objects-at.result c.requires c.index-objects-at.is in
    revoked_some (data_in c.args.bundle.now) c.args.at (data_of c.index-objects-at.result) there (c.is_revoked.ensures.0 c.if-is_revoked.true) c.version_at.result
    c.version_at.ensures.some

pub returns-then-is_revoked-clause-none : goal.returns-then-is_revoked-clause-none
returns-then-is_revoked-clause-none c = revoked_unversioned (data_in c.args.bundle.now) c.args.at c.version_at.result c.version_at.ensures.none

pub returns-else-is_revoked-clause-none : goal.returns-else-is_revoked-clause-none
returns-else-is_revoked-clause-none c =
    let there = object_there c.args.bundle.now c.objects.result.now c.objects.ensures.value c.args.at c.index-objects-at.result c.requires c.index-objects-at.is in
    unrevoked_here (data_in c.args.bundle.now) c.args.at (data_of c.index-objects-at.result) there
    (λ is. false≢true (sym c.if-is_revoked.false ∙ c.is_revoked.ensures.1 is))
