use Rattle.std.proofs.Common.{codes}
use Rattle.stix_json.specs.DataOf.{data_of}
use Rattle.stix_bundles.specs.Objects.{data_in}
use Rattle.stix_bundles.proofs.ObjectsLemmas.{data_read}
use Rattle.stix_bundles.proofs.UnbrokenLemmas.{unbroken_at, last_time_of_object}
use Rattle.stix_bundles.proofs.last_time.last_observed.Goals as goal

pub unreachable-requires : goal.unreachable-requires
unreachable-requires c =
    let d = data_of c.index-objects-at.result in
    let there = data_read c.args.objects.now c.args.at c.index-objects-at.result c.requires.there c.index-objects-at.is in
    let unbroken = unbroken_at 0 (data_in c.args.objects.now) c.requires.unbroken c.args.at d there in
    let timed = c.no_breaks.ensures.observed d unbroken (c.is_observed_data.ensures.0 c.if-not-is_observed_data.false) in
    let time = last_time_of_object (codes "first_observed") (codes "last_observed") d timed in
    c.in-None.ensures time.0 time.1

pub returns-clause-some : goal.returns-clause-some
returns-clause-some c = record {
  object = data_of c.index-objects-at.result;
  there = data_read c.args.objects.now c.args.at c.index-objects-at.result c.requires.there c.index-objects-at.is;
  observed = c.is_observed_data.ensures.0 c.if-not-is_observed_data.false;
  last = c.in-Some.ensures;
}
