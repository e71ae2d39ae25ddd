use Rattle.std.proofs.Common.{rules, ◌≡◌, ◌+◌, ℕ, ℤ, Option, Some, false, cond, unwrap_or, to_z, of_z, ap, sym, subst, ◌∙◌}
use Rattle.std.proofs.lemmas.Int.{to_z-of_z}
use Rattle.std.specs.Ordering.{is_eq}
use Rattle.std.specs.BTreeMap.{get}
use Rattle.std.specs.BTreeMap.Entry.{map_with_value}
use mir.Syntax.{w128}
use Rattle.serde_json.specs.Data.{Data}
use Rattle.stix_json.specs.DataOf.{data_of}
use Rattle.stix_bundles.specs.Objects.{data_in}
use Rattle.stix_versions.specs.declared.duplicates.FirstDuplicate.{FirstDuplicate}
use Rattle.stix_versions.specs.inner.Duplicates.{duplicate_at, IsDuplicateBefore, IsNextDuplicate}
use Rattle.stix_versions.proofs.FirstObjectsLemmas.{data_read}
use Rattle.stix_versions.proofs.VersionLemmas.{one_some}
use Rattle.stix_versions.proofs.IsVersionLemmas.{Laws}
use Rattle.stix_versions.proofs.DuplicatesLemmas.{key_cmp, next_of_kept, duplicates_more, duplicates_told}
use Rattle.stix_versions.proofs.duplicates.Duplicates.add.Goals as goal

pub next_duplicate-next-requires : goal.next_duplicate-next-requires
next_duplicate-next-requires c = data_read c.args.objects.now c.args.at c.index-objects-at.result c.requires.there c.index-objects-at.is

pub returns-clause-told : goal.returns-clause-told
returns-clause-told c =
    let laws : Laws = record { one_id = c.one_id.ensures; one_timestamp = c.one_timestamp.ensures; one_meaning = c.one_meaning.ensures.one } in
    let objects = data_in c.args.objects.now in
    let seen = c.args.version.now in
    let next = c.next_duplicate-next.result in
    let is = c.requires.version in
    let time : to_z w128 (of_z w128 c.nanos.result) ≡ seen.modified = to_z-of_z w128 c.nanos.result (search rules) ∙ c.nanos.ensures.value in
    let there = data_read c.args.objects.now c.args.at c.index-objects-at.result c.requires.there c.index-objects-at.is in
    let object : data_of c.index-objects-at.result ≡ is.object = one_some (data_of c.index-objects-at.result) is.object (sym there ∙ is.version.there) in
    let first = c.or_insert-first.ensures.value ∙ ap (λ (o : Option FirstDuplicate). unwrap_or o (record { at = c.args.at; differs = false })) (c.in_ok-self.ensures.value ∙ ap (λ (t : ℤ). duplicate_at c.args.self.now seen.group t) time) in
    let is_next = next_of_kept objects (duplicate_at c.args.self.now seen.group seen.modified) is.object c.args.at c.or_insert-first.result.now next is.version.there first
    (subst (λ (d : Data). IsNextDuplicate objects (Some c.or_insert-first.result.now) d c.args.at next) object c.next_duplicate-next.ensures) in
    duplicates_told laws c.args.self.now seen next objects c.args.at is is_next c.requires.before

pub returns-clause-kept : goal.returns-clause-kept
returns-clause-kept c =
    let laws : Laws = record { one_id = c.one_id.ensures; one_timestamp = c.one_timestamp.ensures; one_meaning = c.one_meaning.ensures.one } in
    let objects = data_in c.args.objects.now in
    let seen = c.args.version.now in
    let next = c.next_duplicate-next.result in
    let is = c.requires.version in
    let time : to_z w128 (of_z w128 c.nanos.result) ≡ seen.modified = to_z-of_z w128 c.nanos.result (search rules) ∙ c.nanos.ensures.value in
    let there = data_read c.args.objects.now c.args.at c.index-objects-at.result c.requires.there c.index-objects-at.is in
    let object : data_of c.index-objects-at.result ≡ is.object = one_some (data_of c.index-objects-at.result) is.object (sym there ∙ is.version.there) in
    let first = c.or_insert-first.ensures.value ∙ ap (λ (o : Option FirstDuplicate). unwrap_or o (record { at = c.args.at; differs = false })) (c.in_ok-self.ensures.value ∙ ap (λ (t : ℤ). duplicate_at c.args.self.now seen.group t) time) in
    let is_next = next_of_kept objects (duplicate_at c.args.self.now seen.group seen.modified) is.object c.args.at c.or_insert-first.result.now next is.version.there first
    (subst (λ (d : Data). IsNextDuplicate objects (Some c.or_insert-first.result.now) d c.args.at next) object c.next_duplicate-next.ensures) in
    let written = map_with_value c.in_ok-self.field-0 next in
    let put = subst (λ (t : ℤ). (q : ℕ × ℤ) → get key_cmp written q ≡ cond (is_eq (key_cmp (seen.group, t) q)) (Some next) (get key_cmp c.args.self.now.instants q))
    time (c.in_ok-self.ensures.update.0 next).0 in
    λ id group modified latest.
    subst (λ (o : Option FirstDuplicate). IsDuplicateBefore objects (c.args.at + 1) id modified o) (search rules)
    (duplicates_more laws c.args.self.now (record { instants = written }) seen next objects c.args.at is is_next put c.requires.before id group modified latest)
