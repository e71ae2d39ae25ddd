use Rattle.std.proofs.Common.{Ok, Err, inl, sym, ap, subst, ◌∙◌}
use Rattle.std.proofs.lemmas.Result.{err_from_is_err_and}
use Rattle.stix_ids.specs.Identifier.{IsTextOfId}
use Rattle.stix_ids.specs.PartsOf.{id_of}
use Rattle.stix_ids.proofs.IdLemmas.{one_identifier, one_refusal, not_refused}
use Rattle.stix_ids.proofs.reading.read_id.Goals as goal

pub returns-in_err-parts-clause-named : goal.returns-in_err-parts-clause-named
returns-in_err-parts-clause-named c = λ id named.
    let e = c.in_err-parts.field-0.0 in
    let err = c.in_err-parts.ensures.err in
    absurd (err.0 (not_refused c.args.text.now id e named err.1))

pub returns-in_err-parts-clause-refused : goal.returns-in_err-parts-clause-refused
returns-in_err-parts-clause-refused c = λ refusal other refused.
    let e = c.in_err-parts.field-0.0 in
    let err = c.in_err-parts.ensures.err in
    let p = err_from_is_err_and c.from_residual.result c.from_residual.ensures.1 in
    p.1 ∙ ap Err (p.2 ∙ one_refusal c.args.text.now e refusal err.0 other err.1 refused)

pub returns-in_err-id-clause-refused : goal.returns-in_err-id-clause-refused
returns-in_err-id-clause-refused c = λ refusal other refused.
    let id = id_of c.in_ok-parts.parts in
    absurd (other (not_refused c.args.text.now id refusal c.in_ok-parts.ensures.ok refused))

pub returns-clause-ok : goal.returns-clause-ok
returns-clause-ok c = subst (IsTextOfId c.args.text.now) (sym c.in_ok-id.ensures) c.in_ok-parts.ensures.ok

pub returns-clause-named : goal.returns-clause-named
returns-clause-named c = λ id named. inl (ap Ok (one_identifier c.args.text.now c.in_ok-id.id id (returns-clause-ok c) named))

pub returns-clause-refused : goal.returns-clause-refused
returns-clause-refused c = λ refusal other refused.
    absurd (other (not_refused c.args.text.now c.in_ok-id.id refusal (returns-clause-ok c) refused))
