use Rattle.std.proofs.Common.{codes, refl, sym, subst, ◌∙◌}
use Rattle.serde_json.specs.Data.{Data}
use Rattle.stix_json.specs.DataOf.{data_of}
use Rattle.stix_objects.specs.declared.form.Precision.TheVariants.{Any}
use Rattle.stix_objects.specs.Properties.{IsTimestampAt}
use Rattle.stix_bundles.specs.Objects.{data_in}
use Rattle.stix_bundles.proofs.ObjectsLemmas.{same_some}
use Rattle.stix_bundles.proofs.UnbrokenLemmas.{unbroken_at}
use Rattle.stix_bundles.proofs.LastTimeLemmas.{stands, stands_observed}
use Rattle.stix_bundles.proofs.observe.observation.Goals as goal

pub own_id-requires : goal.own_id-requires
own_id-requires c =
    let value = c.index-objects-last_time.result in
    let there = stands c.objects.result.now c.args.bundle.now c.objects.ensures.value c.args.last_time c.requires value c.index-objects-last_time.is in
    unbroken_at 0 (data_in c.args.bundle.now) c.objects.ensures.unbroken c.args.last_time.at (data_of value) there

pub first_observed-requires-clause-unbroken : goal.first_observed-requires-clause-unbroken
first_observed-requires-clause-unbroken c =
    let value = c.index-objects-last_time.result in
    let there = stands c.objects.result.now c.args.bundle.now c.objects.ensures.value c.args.last_time c.requires value c.index-objects-last_time.is in
    unbroken_at 0 (data_in c.args.bundle.now) c.objects.ensures.unbroken c.args.last_time.at (data_of value) there

pub first_observed-requires-clause-observed : goal.first_observed-requires-clause-observed
first_observed-requires-clause-observed c =
    stands_observed c.objects.result.now c.args.bundle.now c.objects.ensures.value c.args.last_time c.requires c.index-objects-last_time.result c.index-objects-last_time.is

pub returns-clause-seen : goal.returns-clause-seen
returns-clause-seen c =
    let value = c.index-objects-last_time.result in
    let there = stands c.objects.result.now c.args.bundle.now c.objects.ensures.value c.args.last_time c.requires value c.index-objects-last_time.is in
    let same = same_some c.requires.object (data_of value) (sym c.requires.there ∙ there) in
    record {
      object = data_of value;
      there = there;
      observed = stands_observed c.objects.result.now c.args.bundle.now c.objects.ensures.value c.args.last_time c.requires value c.index-objects-last_time.is;
      numbered = refl;
      named = c.in_ok-id.ensures;
      first = c.first_observed.ensures;
      last = subst (λ (d : Data). IsTimestampAt Any (codes "last_observed") d c.args.last_time.last) same c.requires.last;
      roots = c.in_ok-roots.ensures;
    }
