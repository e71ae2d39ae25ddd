use Rattle.std.proofs.Common.{subst}
use Rattle.stix_json.specs.declared.value.Field.{Field}
use Rattle.stix_json.specs.DataOf.{data_of}
use Rattle.stix_json.specs.Ordered.{IsOrdered}
use Rattle.stix_json.proofs.FieldsLemmas.{place_within, value_at_ordered}
use Rattle.stix_json.proofs.lookup.named_in_order.Goals as goal

pub returns-clause-ordered : goal.returns-clause-ordered
returns-clause-ordered c =
    let fields = c.args.fields.now in
    let field = c.index-fields-at.result in
    let within = place_within c.args.name.now fields c.in_ok-at.at c.in_ok-at.ensures.some in
    subst (λ (f : Field). IsOrdered (data_of f.value)) c.index-fields-at.is (value_at_ordered fields field c.in_ok-at.at c.requires within c.index-fields-at.is)
