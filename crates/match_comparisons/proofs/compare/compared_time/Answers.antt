use Rattle.std.proofs.Common.{rules, ℤ, Ok, ◌≡◌}
use Rattle.stix_times.specs.Reading.{IsTextOfInstant}
use Rattle.match_comparisons.proofs.CompareLemmas.{named_compares, unnamed_compares}
use Rattle.match_comparisons.proofs.compare.compared_time.Goals as goal

pub returns-in-Ok : goal.returns-in-Ok
returns-in-Ok c =
    let only : (i : ℤ) → IsTextOfInstant c.args.text.now i → i ≡ c.in-Ok.named = λ i names. let e = c.read.ensures.only (Ok i) names in cc in
    named_compares c.args.text.now c.in-Ok.named c.args.instant c.cmp.result c.in-Ok.ensures.ok only (search rules)

pub returns-in-Err : goal.returns-in-Err
returns-in-Err c =
    let never : (i : ℤ) → IsTextOfInstant c.args.text.now i → ⊥ = λ i names. let e = c.read.ensures.only (Ok i) names in cc in
    unnamed_compares c.args.text.now c.args.instant never
