use Rattle.std.proofs.Common.{sym, ◌∙◌}
use Rattle.std.proofs.lemmas.Bool.{false≢true, eqb-true}
use Rattle.std.proofs.lemmas.Slice.Eq.{bytes_eq-Decides}
use Rattle.stix_ids.specs.PartsOf.{id_of}
use Rattle.stix_ids.proofs.IdLemmas.{not_refused, same_parts, text_with_parts}
use Rattle.stix_ids.proofs.reading.is_text_of.Goals as goal

pub returns-then-parts-id : goal.returns-then-parts-id
returns-then-parts-id c =
    let s = c.args.text.now in
    let id = id_of c.in-Ok.parts in
    let read = c.in-Ok.ensures.ok in
    let kind = c.as_str.ensures in
    let decides = bytes_eq-Decides id.kind c.as_str.result.now in (
      λ same. text_with_parts s id c.args.id.now read (decides.0 (sym c.eq.ensures ∙ same) ∙ kind) c.if-parts-id.true,
      λ named. c.eq.ensures ∙ decides.1 ((same_parts s id c.args.id.now read named).0 ∙ sym kind),
    )

pub returns-else-parts-id : goal.returns-else-parts-id
returns-else-parts-id c =
    let s = c.args.text.now in
    let id = id_of c.in-Ok.parts in
    let read = c.in-Ok.ensures.ok in (
      λ same. absurd (c.if-parts-id.false (eqb-true id.number c.args.id.now.number same)),
      λ named. absurd (c.if-parts-id.false (same_parts s id c.args.id.now read named).1),
    )

pub returns-in-Err : goal.returns-in-Err
returns-in-Err c =
    let e = c.in-Err.field-0 in
    let err = c.in-Err.ensures.err in (
      λ bad. absurd (false≢true bad),
      λ named. absurd (err.0 (not_refused c.args.text.now c.args.id.now e named err.1)),
    )
