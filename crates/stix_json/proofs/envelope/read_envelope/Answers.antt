use Rattle.std.proofs.Common.{List, sym, subst}
use Rattle.std.proofs.lemmas.Result.{err_from_is_err_and}
use Rattle.stix_json.specs.declared.property_value.Property.{Property}
use Rattle.stix_json.specs.inner.PropertyValue.{HoldsProperties}
use Rattle.stix_json.proofs.PropertiesLemmas.{no_next}
use Rattle.stix_json.proofs.envelope.read_envelope.Goals as goal

pub returns-in_err-next-clause-err : goal.returns-in_err-next-clause-err
returns-in_err-next-clause-err c =
    let found = c.in_ok-properties.ensures.ok in
    let holds : HoldsProperties found.0 c.deref.result.now = subst (λ (ps : List Property). HoldsProperties found.0 ps) (sym c.deref.ensures.value) found.2 in
    let again : HoldsProperties found.0 c.deref-2.result.now = subst (λ (ps : List Property). HoldsProperties found.0 ps) (sym c.deref-2.ensures.value) found.2 in
    let p = err_from_is_err_and c.from_residual-in_err-next.result c.from_residual-in_err-next.ensures.1 in
    rw (p.1, p.2) (no_next c.args.bytes.now found.0 c.deref-2.result.now c.in-Some.more c.in_err-next.field-0.0 found.1 again (c.in-Some.ensures found.0 holds) c.in_err-next.ensures.err)
