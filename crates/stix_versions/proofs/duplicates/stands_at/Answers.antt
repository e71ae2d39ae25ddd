use Rattle.stix_json.specs.DataOf.{data_of}
use Rattle.stix_versions.proofs.DuplicatesLemmas.{stands_here, stands_nowhere}
use Rattle.stix_versions.proofs.duplicates.stands_at.Goals as goal

pub returns-in-Some : goal.returns-in-Some
returns-in-Some c =
    let lookup = c.in-Some.ensures.lookup in
    stands_here c.args.objects.now c.args.at c.in-Some.other.now (data_of c.args.object.now) lookup.0 lookup.1 c.is_same.result c.is_same.ensures

pub returns-in-None : goal.returns-in-None
returns-in-None c = stands_nowhere c.args.objects.now c.args.at (data_of c.args.object.now) c.in-None.ensures.lookup.0
