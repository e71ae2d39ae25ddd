use Rattle.std.proofs.Common.{sym}
use Rattle.stix_json.specs.DataOf.{data_of}
use Rattle.stix_bundles.specs.Objects.{data_in}
use Rattle.stix_versions.proofs.MarkingsLemmas.{on_ok, are_markings}
use Rattle.stix_versions.proofs.markings.add_breaks.Goals as goal

pub returns-in-Some : goal.returns-in-Some
returns-in-Some c =
    let d = data_of c.args.object.now in
    let markings = data_in c.in-Some.markings.now in
    on_ok c.add_list.result _ _ c.add_list.ensures (λ w. (w.0, (markings, are_markings d markings (sym c.in-Some.ensures), w.1), w.2))
