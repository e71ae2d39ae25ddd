use Rattle.stix_json.specs.DataOf.{data_of}
use Rattle.stix_bundles.specs.Objects.{data_in}
use Rattle.match_comparisons.specs.inner.Search.{borrowed_name}
use Rattle.hunt_index.proofs.WalkLemmas.{first_reached}
use Rattle.hunt_index.proofs.walk.next_value.Goals as goal

pub returns-clause-reached : goal.returns-clause-reached
returns-clause-reached c =
    first_reached (data_in c.args.bundle.now) (borrowed_name c.args.last) c.args.step.now (data_of c.args.value.now) c.selected.result.now c.first.result c.first.ensures.value c.selected.ensures.reached
