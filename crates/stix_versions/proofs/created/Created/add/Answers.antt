use Rattle.std.proofs.Common.{rules, ◌+◌, Option, subst}
use Rattle.std.specs.Ordering.{nat_cmp}
use Rattle.std.specs.BTreeMap.{get}
use Rattle.std.specs.BTreeMap.Entry.{map_with_value}
use Rattle.stix_versions.specs.declared.created.FirstCreated.{FirstCreated}
use Rattle.stix_versions.specs.inner.FirstVersions.{IsCreatedBefore}
use Rattle.stix_versions.proofs.IsVersionLemmas.{Laws}
use Rattle.stix_versions.proofs.CreatedLemmas.{next_of_kept, created_more, created_told}
use Rattle.stix_versions.proofs.created.Created.add.Goals as goal

pub returns-clause-told : goal.returns-clause-told
returns-clause-told c =
    let laws : Laws = record { one_id = c.one_id.ensures; one_timestamp = c.one_timestamp.ensures; one_meaning = c.one_meaning.ensures.one } in
    let next = c.next_created-next.result in
    created_told laws c.args.self.now c.args.version.now next
    (next_of_kept (get nat_cmp c.args.self.now.groups c.args.version.now.group) c.args.version.now.created c.or_insert-first.result.now next
    (search rules) c.next_created-next.ensures)

pub returns-clause-kept : goal.returns-clause-kept
returns-clause-kept c =
    let laws : Laws = record { one_id = c.one_id.ensures; one_timestamp = c.one_timestamp.ensures; one_meaning = c.one_meaning.ensures.one } in
    let next = c.next_created-next.result in
    let is_next = next_of_kept (get nat_cmp c.args.self.now.groups c.args.version.now.group) c.args.version.now.created c.or_insert-first.result.now next
    (search rules) c.next_created-next.ensures in
    let written = map_with_value c.in_ok-self.field-0 next in
    let put = (c.in_ok-self.ensures.update.0 next).0 in
    λ objects at is kept id group latest.
    subst (λ (o : Option FirstCreated). IsCreatedBefore objects (at + 1) id o) (search rules)
    (created_more laws c.args.self.now (record { groups = written }) c.args.version.now next is_next put objects at is kept id group latest)
