use Rattle.std.proofs.Common.{take, sym, subst}
use Rattle.stix_ids.specs.PartsOf.{id_of}
use Rattle.stix_json.specs.DataOf.{data_of}
use Rattle.stix_bundles.specs.Objects.{data_in}
use Rattle.stix_bundles.specs.Lookup.{IsOf}
use Rattle.stix_bundles.specs.inner.Index.{IsPositionOf}
use Rattle.stix_bundles.proofs.ObjectsLemmas.{data_read, ordered_at}
use Rattle.stix_bundles.proofs.IndexOfLemmas.{put_well, add_beside}
use Rattle.stix_bundles.proofs.latest.add.Goals as goal

pub returns-in_default : goal.returns-in_default
returns-in_default c =
    let object = c.index-objects-at.result in
    let there = data_read c.args.objects.now c.args.at object c.requires.there c.index-objects-at.is in
    add_beside (data_in c.args.objects.now) c.args.at (data_of object) there c.args.positions.now c.in_default.ensures c.requires.before

pub returns : goal.returns
returns c =
    let ds = data_in c.args.objects.now in
    let object = c.index-objects-at.result in
    let there = data_read c.args.objects.now c.args.at object c.requires.there c.index-objects-at.is in
    let id = id_of c.in-Some.id in
    let has = c.in-Some.ensures in
    let of : IsOf ds id c.args.at = record { object = data_of object; there = there; has = has } in
    let held = subst (IsPositionOf (take c.args.at ds) id) (sym c.get.ensures) (c.requires.before id) in
    put_well c.one_id.ensures ds c.args.at (data_of object) there id has c.later-latest.result (c.later-latest.ensures id of held) c.args.positions.now c.put.new.self
    c.requires.before c.put.result c.put.ensures

pub ordered_id-requires : goal.ordered_id-requires
ordered_id-requires c = ordered_at c.args.objects.now c.args.at c.index-objects-at.result c.requires.there c.index-objects-at.is c.requires.ordered
