use Rattle.std.proofs.Common.{codes}
use Rattle.stix_json.specs.DataOf.{data_of}
use Rattle.stix_bundles.proofs.UnbrokenLemmas.{first_time_of}
use Rattle.stix_bundles.proofs.observe.first_observed.Goals as goal

pub unreachable-requires : goal.unreachable-requires
unreachable-requires c =
    let d = data_of c.args.object.now in
    let timed = c.no_breaks.ensures.observed d c.requires.unbroken c.requires.observed in
    let time = first_time_of (codes "first_observed") (codes "last_observed") d timed in
    c.in-None.ensures time.0 time.1
