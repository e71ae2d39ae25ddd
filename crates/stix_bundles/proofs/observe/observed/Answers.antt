use Rattle.std.proofs.Common.{List, ◌+◌, take, sym, subst}
use Rattle.stix_bundles.specs.declared.observation.Observation.{Observation}
use Rattle.stix_bundles.specs.Objects.{data_in}
use Rattle.stix_bundles.specs.inner.LastTimes.{AreObservationsAt}
use Rattle.stix_bundles.proofs.ObservationsAtLemmas.{told_more}
use Rattle.stix_bundles.proofs.observe.observed.Goals as goal

pub loop-at-preserved : goal.loop-at-preserved
loop-at-preserved c =
    let ds = data_in c.args.bundle.now in
    let ms = c.args.last_times.now in
    let at = c.loop-at.at in
    subst (λ (os : List Observation). AreObservationsAt ds c.args.first (take (at + 1) ms) os) (sym c.in_ok-push.ensures.ok)
    (told_more ds c.args.first ms at c.index-last_times-at.result c.loop-at.observations c.in_ok-observation.field-0 c.loop-at-test.true (sym c.index-last_times-at.is) c.loop-at.invariant
    c.in_ok-observation.ensures.seen c.in_ok-observation.ensures.last)
