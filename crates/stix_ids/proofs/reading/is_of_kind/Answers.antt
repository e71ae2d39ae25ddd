use Rattle.std.proofs.Common.{sym, ap, ◌∙◌}
use Rattle.std.proofs.lemmas.Bool.{false≢true}
use Rattle.std.proofs.lemmas.Slice.Eq.{bytes_eq-Decides}
use Rattle.stix_ids.specs.declared.id.Id.{Id}
use Rattle.stix_ids.specs.PartsOf.{id_of}
use Rattle.stix_ids.proofs.reading.is_of_kind.Goals as goal

pub returns-in-Ok : goal.returns-in-Ok
returns-in-Ok c =
    let decides = bytes_eq-Decides c.in-Ok.parts.kind.now c.args.kind.now in (
      λ same. (id_of c.in-Ok.parts, c.in-Ok.ensures.ok, decides.0 (sym c.eq.ensures ∙ same)),
      λ w. c.eq.ensures ∙ decides.1 (ap (λ (id : Id). id.kind) (c.in-Ok.ensures.named w.0 w.1) ∙ w.2),
    )

pub returns-in-Err : goal.returns-in-Err
returns-in-Err c = (λ f. absurd (false≢true f), λ w. absurd (c.in-Err.ensures.named w.0 w.1))
