use Rattle.std.proofs.Common.{ap, sym, subst}
use Rattle.stix_ids.specs.declared.id.Id.{Id}
use Rattle.stix_ids.specs.PartsOf.{id_of}
use Rattle.stix_json.specs.DataOf.{data_of}
use Rattle.stix_objects.specs.Properties.{HasId}
use Rattle.hunt_feed.specs.Gathering.{indicator_id}
use Rattle.hunt_feed.proofs.indicator_object.number_of.Goals as goal

pub unreachable-requires : goal.unreachable-requires
unreachable-requires c = c.in-None.ensures (indicator_id c.indicators_have_fields.ensures.number) c.indicators_have_fields.ensures.has

pub returns : goal.returns
returns c =
    let d = data_of c.args.object.now in
    let told = c.indicators_have_fields.ensures in
    let same = c.one_id.ensures d (id_of c.in-Some.id) (indicator_id told.number) c.in-Some.ensures told.has in
    subst (λ n. HasId d (indicator_id n)) (ap (λ (i : Id). i.number) (sym same)) told.has
