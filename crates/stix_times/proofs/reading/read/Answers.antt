use Rattle.std.proofs.Common.{Err, subst}
use Rattle.std.proofs.lemmas.Result.{err_from_is_err_and}
use Rattle.stix_times.specs.Parts.{timestamp_of}
use Rattle.stix_times.specs.Timestamp.{Spells}
use Rattle.stix_times.specs.Reading.{IsRefusedTimestamp}
use Rattle.stix_times.proofs.ReadingLemmas.{only_reading, reads_from_parts}
use Rattle.stix_times.proofs.reading.read.Goals as goal

pub returns-in_err-parts-clause-only : goal.returns-in_err-parts-clause-only
returns-in_err-parts-clause-only c =
    let s = c.args.text.now in
    let e = c.in_err-parts.field-0.0 in
    let p = err_from_is_err_and c.from_residual.result c.from_residual.ensures.1 in
    rw (p.1, p.2) (λ other h. only_reading s other (Err e) h (subst (λ v. IsRefusedTimestamp v e) c.as_bytes.ensures.value c.in_err-parts.ensures.err))

pub returns-clause-only : goal.returns-clause-only
returns-clause-only c =
    let s = c.args.text.now in
    let t = timestamp_of c.in_ok-parts.parts in
    λ other h. only_reading s other c.instant.result h
    (reads_from_parts s t (subst (λ v. Spells t v) c.as_bytes.ensures.value c.in_ok-parts.ensures.ok) c.instant.result c.instant.ensures.ok c.instant.ensures.err)
