use Rattle.std.proofs.lemmas.Bool.{false≢true}
use Rattle.stix_json.specs.DataOf.{data_of}
use Rattle.stix_bundles.specs.Objects.{data_in}
use Rattle.stix_versions.specs.inner.Version.{IsNoVersion}
use Rattle.stix_versions.proofs.VersionLemmas.{if_none, object_there, uncreated_is_none, unmodified_is_none, unmeant_is_none, seen_as}
use Rattle.stix_versions.proofs.version.version_at.Goals as goal

pub returns-in_err-created-clause-none : goal.returns-in_err-created-clause-none
returns-in_err-created-clause-none c =
    let objects = data_in c.args.bundle.now in
    let there = object_there c.args.bundle.now c.objects.result.now c.objects.ensures.value c.args.at c.index-objects-at.result c.requires c.index-objects-at.is in
    if_none (IsNoVersion objects c.args.at) c.from_residual.result
    (uncreated_is_none objects c.args.at (data_of c.index-objects-at.result) there c.in_err-created.ensures)

pub returns-in_err-modified-clause-none : goal.returns-in_err-modified-clause-none
returns-in_err-modified-clause-none c =
    let objects = data_in c.args.bundle.now in
    let there = object_there c.args.bundle.now c.objects.result.now c.objects.ensures.value c.args.at c.index-objects-at.result c.requires c.index-objects-at.is in
    if_none (IsNoVersion objects c.args.at) c.from_residual-in_err-modified.result
    (unmodified_is_none objects c.args.at (data_of c.index-objects-at.result) there c.in_err-modified.ensures)

pub returns-in_err-group-clause-none : goal.returns-in_err-group-clause-none
returns-in_err-group-clause-none c =
    let objects = data_in c.args.bundle.now in
    let there = object_there c.args.bundle.now c.objects.result.now c.objects.ensures.value c.args.at c.index-objects-at.result c.requires c.index-objects-at.is in
    if_none (IsNoVersion objects c.args.at) c.from_residual-in_err-group.result
    (unmeant_is_none c.one_meaning.ensures.own objects c.args.at (data_of c.index-objects-at.result) there c.in_ok-id.id.now c.in_ok-id.ensures c.in_err-group.ensures)

pub returns-clause-some : goal.returns-clause-some
returns-clause-some c =
    let objects = data_in c.args.bundle.now in
    let there = object_there c.args.bundle.now c.objects.result.now c.objects.ensures.value c.args.at c.index-objects-at.result c.requires c.index-objects-at.is in
    seen_as objects c.args.at (data_of c.index-objects-at.result) there
    (record { group = c.in_ok-group.group; created = c.in_ok-created.created; modified = c.in_ok-modified.modified })
    (λ is. false≢true (c.if-is_observable.ensures.1 is)) c.in_ok-id.id.now c.in_ok-id.ensures c.in_ok-group.ensures c.in_ok-created.ensures
    c.in_ok-modified.ensures
