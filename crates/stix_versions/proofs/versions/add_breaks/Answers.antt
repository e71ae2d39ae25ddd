use Rattle.std.proofs.Common.{◌↔◌, ◌+◌, ◌++◌, IsTrue, List, [], append-nil, sym, subst}
use Rattle.stix_json.specs.declared.value.Json.{Json}
use Rattle.stix_versions.specs.declared.version_break.VersionRule.TheVariants.{CreatedChanged, AfterRevoked, SameVersionTwice}
use Rattle.stix_versions.specs.inner.Duplicates.{AreDuplicatesBefore}
use Rattle.stix_bundles.specs.Objects.{data_in}
use Rattle.stix_versions.specs.Versions.{BreaksVersionRule}
use Rattle.stix_versions.proofs.CreatedLemmas.{created_past}
use Rattle.stix_versions.proofs.DuplicatesLemmas.{duplicates_past}
use Rattle.stix_versions.proofs.VersionBreaksLemmas.{so, none_broken, broken_where, told_where}
use Rattle.stix_versions.proofs.versions.add_breaks.Goals as goal

pub returns-in_default-clause-told : goal.returns-in_default-clause-told
returns-in_default-clause-told c =
    ([], none_broken (data_in c.args.bundle.now) c.args.at c.in_default.ensures.none, sym (append-nil c.args.found.now))

pub returns-in_default-clause-kept : goal.returns-in_default-clause-kept
returns-in_default-clause-kept c = record {
  created = created_past (data_in c.args.bundle.now) c.args.at c.args.seen.now.created c.in_default.ensures.none c.requires.before.created;
  duplicates = duplicates_past (data_in c.args.bundle.now) c.args.at c.args.seen.now.duplicates c.in_default.ensures.none c.requires.before.duplicates;
}

pub add-requires-2-clause-before : goal.add-requires-2-clause-before
add-requires-2-clause-before c =
    subst (λ (values : List Json). AreDuplicatesBefore (data_in values) c.args.at c.args.seen.now.duplicates) (sym c.objects-objects.ensures.value) c.requires.before.duplicates

pub returns-clause-told : goal.returns-clause-told
returns-clause-told c =
    let objects = data_in c.args.bundle.now in
    let at = c.args.at in
    let is = c.in-Some.ensures.some in
    let changed = c.in_ok-changed.changed in
    let after = c.precedes-after.result in
    let twice = c.in_ok-twice.twice in
    let first = c.in_ok-changed.ensures.told objects at is c.requires.before.created in
    let second = c.precedes-after.ensures objects at is c.requires.revoked in
    let third = subst (λ (values : List Json). IsTrue twice ↔ BreaksVersionRule (data_in values) at SameVersionTwice) c.objects-objects.ensures.value c.in_ok-twice.ensures.told in (
      so changed CreatedChanged ++ (so after AfterRevoked ++ (so twice SameVersionTwice ++ [])),
      broken_where (BreaksVersionRule objects at) changed after twice first second third,
      told_where at c.args.found.now c.add-3.new.found c.add-4.new.found c.add-5.new.found changed after twice c.in_ok-add.ensures c.in_ok-add-2.ensures c.in_ok-add-3.ensures,
    )

pub returns-clause-kept : goal.returns-clause-kept
returns-clause-kept c = record {
  created = c.in_ok-changed.ensures.kept (data_in c.args.bundle.now) c.args.at c.in-Some.ensures.some c.requires.before.created;
  duplicates = subst (λ (values : List Json). AreDuplicatesBefore (data_in values) (c.args.at + 1) c.add-2.new.self) c.objects-objects.ensures.value c.in_ok-twice.ensures.kept;
}
