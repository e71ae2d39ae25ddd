use Rattle.std.proofs.Common.{arith, ◌≤◌, List, length, subst}
use Rattle.std.proofs.lemmas.List.{take_all}
use Rattle.std.proofs.lemmas.List.{length-map}
use Rattle.serde_json.specs.Data.{Data}
use Rattle.stix_json.specs.DataOf.{data_of}
use Rattle.stix_bundles.specs.Objects.{data_in}
use Rattle.stix_bundles.specs.inner.Index.{ArePositionsOf}
use Rattle.stix_bundles.proofs.latest.positions_of.Goals as goal

pub returns : goal.returns
returns c =
    let ds = data_in c.args.objects.now in
    let count = length-map c.args.objects.now data_of in
    let past : length ds ≤ c.loop-at.at = omega arith in
    subst (λ (xs : List Data). ArePositionsOf xs c.loop-at.positions) (take_all c.loop-at.at ds past) c.loop-at.invariant
