use Rattle.std.proofs.Common.{Option, option_map, subst}
use Rattle.flow_values.specs.Answers.{FindsExactly}
use Rattle.stix_ids.specs.declared.parts.IdRef.{IdRef}
use Rattle.stix_ids.specs.PartsOf.{id_of}
use Rattle.stix_json.specs.DataOf.{data_of}
use Rattle.stix_objects.specs.Properties.{HasId}
use Rattle.taxii_service.proofs.NamedLemmas.{named_has_id}
use Rattle.taxii_service.proofs.posted.has_no_id.Goals as goal

pub returns-in-None : goal.returns-in-None
returns-in-None c = λ _ unbroken.
    let d = data_of c.args.value.now in
    let has = named_has_id d (c.no_breaks.ensures.named d unbroken) in
    let none = subst (λ (found : Option IdRef). FindsExactly (HasId d) (option_map id_of found)) c.in-None.is c.object_id.ensures in
    none has.0 has.1
