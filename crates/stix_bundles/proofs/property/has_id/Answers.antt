use Rattle.std.proofs.Common.{sym, ap, subst, ◌∙◌}
use Rattle.std.proofs.lemmas.Bool.{false≢true, eqb-true}
use Rattle.std.proofs.lemmas.Slice.Eq.{bytes_eq-Decides}
use Rattle.stix_ids.specs.declared.id.Id.{Id}
use Rattle.stix_ids.specs.PartsOf.{id_of}
use Rattle.stix_json.specs.DataOf.{data_of}
use Rattle.stix_objects.specs.Properties.{HasId}
use Rattle.stix_bundles.proofs.IndexLemmas.{same_parts}
use Rattle.stix_bundles.proofs.property.has_id.Goals as goal

pub returns-then-own-id : goal.returns-then-own-id
returns-then-own-id c =
    let d = data_of c.args.object.now in
    let own = id_of c.in-Some.own in
    let id = id_of c.args.id in
    let decides = bytes_eq-Decides own.kind id.kind in (
      λ same. subst (HasId d) (same_parts own id (decides.0 (sym c.eq.ensures ∙ same)) c.if-own-id.true) c.in-Some.ensures,
      λ has. c.eq.ensures ∙ decides.1 (ap (λ (i : Id). i.kind) (c.one_id.ensures d own id c.in-Some.ensures has)),
    )

pub returns-else-own-id : goal.returns-else-own-id
returns-else-own-id c =
    let d = data_of c.args.object.now in
    let own = id_of c.in-Some.own in
    let id = id_of c.args.id in (
      λ same. absurd (c.if-own-id.false (eqb-true own.number id.number same)),
      λ has. absurd (c.if-own-id.false (ap (λ (i : Id). i.number) (c.one_id.ensures d own id c.in-Some.ensures has))),
    )

pub returns-in-None : goal.returns-in-None
returns-in-None c = (λ bad. absurd (false≢true bad), λ has. absurd (c.in-None.ensures (id_of c.args.id) has))
