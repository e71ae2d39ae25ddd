use Rattle.std.proofs.Common.{List, IfOk, subst}
use Rattle.stix_json.specs.declared.value.Json.{Json}
use Rattle.stix_bundles.specs.declared.last_time.LastTime.{LastTime}
use Rattle.stix_bundles.specs.Objects.{data_in}
use Rattle.stix_bundles.specs.inner.LastTimes.{AreLastTimes, AreObservationsAt}
use Rattle.stix_bundles.proofs.ObservationsLemmas.{observations_well, counted_well}
use Rattle.stix_bundles.proofs.observe.all_observed.Goals as goal

pub returns-clause-ok : goal.returns-clause-ok
returns-clause-ok c =
    let ds = data_in c.args.bundle.now in
    let ms = c.in_ok-last_times.last_times.items in
    let are = subst (λ (values : List Json). AreLastTimes (data_in values) ms) c.objects.ensures.value c.in_ok-last_times.ensures.all in
    let told = subst (λ (slice : List LastTime). IfOk c.observed.result (AreObservationsAt ds c.args.first slice)) c.as_slice.ensures.value c.observed.ensures in
    observations_well ds c.args.first ms are c.in_ok-last_times.ensures.ordered c.observed.result told

pub returns-clause-counted : goal.returns-clause-counted
returns-clause-counted c =
    let ds = data_in c.args.bundle.now in
    let ms = c.in_ok-last_times.last_times.items in
    let are = subst (λ (values : List Json). AreLastTimes (data_in values) ms) c.objects.ensures.value c.in_ok-last_times.ensures.all in
    let told = subst (λ (slice : List LastTime). IfOk c.observed.result (AreObservationsAt ds c.args.first slice)) c.as_slice.ensures.value c.observed.ensures in
    counted_well ds c.args.first ms are c.observed.result told
