use Rattle.std.proofs.Common.{length}
use Rattle.stix_bundles.specs.Objects.{data_in}
use Rattle.stix_bundles.proofs.LastTimesLemmas.{last_times_moved}
use Rattle.stix_bundles.proofs.ObservationsLemmas.{in_order_sorted}
use Rattle.stix_bundles.proofs.last_time.last_times_in_order.Goals as goal

pub returns-clause-all : goal.returns-clause-all
returns-clause-all c =
    let ds = data_in c.args.objects.now in
    last_times_moved ds (length ds) c.in_ok-last_times.last_times.items c.sort.new.self.items c.in_ok-sort.ensures.permutation c.in_ok-last_times.ensures

pub returns-clause-ordered : goal.returns-clause-ordered
returns-clause-ordered c = in_order_sorted c.sort.new.self.items c.in_ok-sort.ensures.sorted
