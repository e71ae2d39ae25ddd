use Rattle.stix_json.specs.DataOf.{data_of}
use Rattle.hunt_feed.proofs.RowsLemmas.{told}
use Rattle.hunt_feed.proofs.indicator_object.indicators_have_fields.Goals as goal

pub returns : goal.returns
returns c =
    let d = data_of c.args.object.now in
    told d c.requires.indicator (c.no_breaks.ensures.named d c.requires.unbroken) (c.no_breaks.ensures.rows d c.requires.unbroken)
