use Rattle.std.proofs.Common.{ℕ, List, IfOk, filter_map, sym, subst, ◌∙◌}
use Rattle.serde_json.specs.Find.{as_str}
use Rattle.stix_json.specs.declared.value.Json.{Json}
use Rattle.stix_json.specs.DataOf.{data_of}
use Rattle.stix_bundles.specs.Objects.{data_in}
use Rattle.stix_bundles.specs.Observations.{AreResolved}
use Rattle.stix_bundles.proofs.ReferencesLemmas.{references_of}
use Rattle.stix_bundles.proofs.observe.roots_of.Goals as goal

pub returns-in-Some-Array : goal.returns-in-Some-Array
returns-in-Some-Array c =
    let objects = data_in c.args.bundle.now in
    let texts = references_of (data_of c.args.object.now) c.in-Some-Array.field-0.now c.in-Some-Array.items c.in-Some-Array.ensures c.in-Some-Array.field-0-is in
    subst (λ (ts : List (List ℕ)). IfOk c.resolved.result (AreResolved objects ts)) (sym texts)
    (subst (λ (items : List Json). IfOk c.resolved.result (AreResolved objects (filter_map as_str (data_in items)))) (c.as_slice.ensures ∙ c.in-Some-Array.items-is) c.resolved.ensures)
