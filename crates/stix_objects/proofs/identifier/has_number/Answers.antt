use Rattle.std.proofs.Common.{ap, ◌∙◌}
use Rattle.std.proofs.lemmas.Bool.{eqb-true, eq-eqb}
use Rattle.stix_ids.specs.declared.id.Id.{Id}
use Rattle.stix_ids.specs.PartsOf.{id_of}
use Rattle.stix_json.specs.DataOf.{data_of}
use Rattle.stix_objects.proofs.IdentifierLemmas.{one_id}
use Rattle.stix_objects.proofs.identifier.has_number.Goals as goal

pub returns-in-Some : goal.returns-in-Some
returns-in-Some c =
    let id = id_of c.in-Some.parts in
    rw (← c.json.ensures) (
      λ same. (id, c.in-Some.ensures, eqb-true id.number c.args.number same),
      λ has. eq-eqb id.number c.args.number
          (ap (λ (i : Id). i.number) (one_id c.one_identifier.ensures (data_of c.json.result.now) id has.0 c.in-Some.ensures has.1) ∙ has.2),
    )

pub returns-in-None : goal.returns-in-None
returns-in-None c = rw (← c.json.ensures) (λ f. absurd (cc), λ has. absurd (c.in-None.ensures has.0 has.1))
