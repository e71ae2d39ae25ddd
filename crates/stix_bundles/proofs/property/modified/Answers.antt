use Rattle.std.proofs.Common.{codes, sym, subst}
use Rattle.stix_json.specs.DataOf.{data_of}
use Rattle.stix_bundles.specs.Lookup.{IsModified}
use Rattle.stix_bundles.proofs.PropertyLemmas.{millis_read}
use Rattle.stix_bundles.proofs.property.modified.Goals as goal

pub returns : goal.returns
returns c =
    let d = data_of c.args.object.now in
    subst (IsModified d) (sym c.ok.ensures.value)
    (millis_read d (codes "modified") c.in_ok-ordered_text_at.field-0.now c.in_ok-ordered_text_at.ensures c.read_millis.result c.read_millis.ensures.ok c.read_millis.ensures.only)
