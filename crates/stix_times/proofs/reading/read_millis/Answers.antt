use Rattle.std.proofs.Common.{◌≡◌, Bool, false, IsTrue, ◌↔◌, Ok, Err, subst, sym, ◌∙◌}
use Rattle.std.proofs.lemmas.Bool.{false≢true}
use Rattle.std.proofs.lemmas.Result.{err_from_is_err_and}
use Rattle.stix_times.specs.declared.refusal.TimeRefusal.TheVariants.{NotMillis}
use Rattle.stix_times.specs.Parts.{timestamp_of}
use Rattle.stix_times.specs.Timestamp.{Spells}
use Rattle.stix_times.specs.Reading.{IsRefusedTimestamp, HasMillis}
use Rattle.stix_times.proofs.ReadingLemmas.{only_millis, refused, refused_millis}
use Rattle.stix_times.proofs.reading.read_millis.Goals as goal

pub returns-in_err-parts-clause-only : goal.returns-in_err-parts-clause-only
returns-in_err-parts-clause-only c =
    let s = c.args.text.now in
    let e = c.in_err-parts.field-0.0 in
    let p = err_from_is_err_and c.from_residual.result c.from_residual.ensures.1 in
    rw (p.1, p.2) (λ other h. only_millis s other (Err e) h (refused_millis s e (subst (λ v. IsRefusedTimestamp v e) c.as_bytes.ensures.value c.in_err-parts.ensures.err)))

pub returns-in_err-instant-clause-only : goal.returns-in_err-instant-clause-only
returns-in_err-instant-clause-only c =
    let s = c.args.text.now in
    let e = c.in_err-instant.field-0.0 in
    let t = timestamp_of c.in_ok-parts.parts in
    let p = err_from_is_err_and c.from_residual-in_err-instant.result c.from_residual-in_err-instant.ensures.1 in
    rw (p.1, p.2) (λ other h. only_millis s other (Err e) h (refused_millis s e (refused s t (subst (λ v. Spells t v) c.as_bytes.ensures.value c.in_ok-parts.ensures.ok) e c.in_err-instant.ensures.err)))

not_millis : (b : Bool) (P : Type 0) → (IsTrue b ↔ P) → b ≡ false → ¬ P
not_millis b P h e p = false≢true (sym e ∙ h.1 p)

pub returns-then-not-has_millis-clause-err : goal.returns-then-not-has_millis-clause-err
returns-then-not-has_millis-clause-err c =
    let t = timestamp_of c.in_ok-parts.parts in
    (t, subst (λ v. Spells t v) c.as_bytes.ensures.value c.in_ok-parts.ensures.ok, (c.in_ok-instant.ensures.ok.exact, not_millis c.has_millis.result (HasMillis t) c.has_millis.ensures c.if-not-has_millis.true))

pub returns-then-not-has_millis-clause-only : goal.returns-then-not-has_millis-clause-only
returns-then-not-has_millis-clause-only c =
    λ other h. only_millis c.args.text.now other (Err NotMillis) h (returns-then-not-has_millis-clause-err c)

pub returns-clause-ok : goal.returns-clause-ok
returns-clause-ok c =
    let t = timestamp_of c.in_ok-parts.parts in
    (t, subst (λ v. Spells t v) c.as_bytes.ensures.value c.in_ok-parts.ensures.ok, (c.in_ok-instant.ensures.ok.exact, c.has_millis.ensures.0 c.if-not-has_millis.false, c.in_ok-instant.ensures.ok.nanos))

pub returns-clause-only : goal.returns-clause-only
returns-clause-only c =
    λ other h. only_millis c.args.text.now other (Ok c.in_ok-instant.instant) h (returns-clause-ok c)
