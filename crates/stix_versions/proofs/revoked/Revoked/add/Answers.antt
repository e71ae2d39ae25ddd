use Rattle.std.proofs.Common.{rules, ◌≡◌, ℤ, Option, subst}
use Rattle.std.specs.Ordering.{nat_cmp}
use Rattle.std.specs.BTreeMap.{get}
use Rattle.stix_versions.specs.inner.FirstVersions.{IsNextRevoked}
use Rattle.stix_versions.proofs.IsVersionLemmas.{Laws}
use Rattle.stix_versions.proofs.RevokedLemmas.{revoked_more}
use Rattle.stix_versions.proofs.revoked.Revoked.add.Goals as goal

pub returns : goal.returns
returns c =
    let laws : Laws = record { one_id = c.one_id.ensures; one_timestamp = c.one_timestamp.ensures; one_meaning = c.one_meaning.ensures.one } in
    let first : c.copied-first.result ≡ get nat_cmp c.args.self.now.groups c.args.version.now.group = search rules in
    let next = c.earlier-next.result in
    revoked_more laws c.args.self.now (record { groups = c.insert.new.self }) c.args.version.now next
    (subst (λ (o : Option ℤ). IsNextRevoked o c.args.version.now.modified next) first c.earlier-next.ensures) c.in_ok-insert.ensures.updates.0
