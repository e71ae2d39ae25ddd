use Rattle.std.proofs.Common.{sym, subst, ◌∙◌}
use Rattle.std.proofs.lemmas.Bool.{false≢true}
use Rattle.stix_ids.specs.declared.id.Id.{Id}
use Rattle.taxii_index.specs.Index.{HasRowOf}
use Rattle.taxii_service.proofs.resource.stored_id.Goals as goal

pub returns-in_default : goal.returns-in_default
returns-in_default c = λ value its. c.in_default.ensures.named value its.text_of

pub returns-else-has_object : goal.returns-else-has_object
returns-else-has_object c = λ value its.
    let stored = subst (λ (id : Id). HasRowOf c.args.library.now.rows c.args.info.now.id id) (sym (c.in-Ok.ensures.named value its.text_of)) its.stored in
    false≢true (sym c.if-has_object.false ∙ c.has_object.ensures.1 stored)
