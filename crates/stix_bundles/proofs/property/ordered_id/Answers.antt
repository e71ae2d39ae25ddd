use Rattle.std.proofs.Common.{Option, option_map, sym, subst}
use Rattle.flow_values.specs.Answers.{FindsExactly}
use Rattle.stix_ids.specs.declared.parts.IdRef.{IdRef}
use Rattle.stix_ids.specs.PartsOf.{id_of}
use Rattle.stix_json.specs.DataOf.{data_of}
use Rattle.stix_objects.specs.Properties.{HasId}
use Rattle.stix_bundles.proofs.PropertyLemmas.{id_read}
use Rattle.stix_bundles.proofs.property.ordered_id.Goals as goal

pub returns : goal.returns
returns c =
    let d = data_of c.args.object.now in
    subst (λ (o : Option IdRef). FindsExactly (HasId d) (option_map id_of o)) (sym c.ok.ensures.value)
    (id_read d c.in_ok-ordered_text_at.field-0.now c.in_ok-ordered_text_at.ensures c.read.result c.read.ensures.ok c.read.ensures.named)
