use Rattle.std.proofs.Common.{◌≡◌, ℕ, List, ◌++◌, length, take, min, refl, ap, subst, ◌∙◌, arith}
use Rattle.std.specs.List.{AllZip}
use Rattle.std.proofs.lemmas.List.{take_min}
use Rattle.taxii_service.specs.declared.posted.TheConstants.{MAX_DETAILS}
use Rattle.taxii_store.specs.declared.add_outcome.AddOutcome.{AddOutcome}
use Rattle.taxii_service.specs.Adding.{IsSuccess}
use Rattle.taxii_service.proofs.outcomes.report_of.Goals as goal

pub returns : goal.returns
returns c =
    let outcomes = c.args.planned.now.outcomes in
    let slice = c.outcomes-outcomes.ensures in
    let least : c.min.result ≡ min MAX_DETAILS (length c.outcomes-outcomes.result.now) = omega (arith, c.min.ensures) in
    let first : take c.min.result c.outcomes-outcomes.result.now ≡ take MAX_DETAILS outcomes =
    ap (λ (n : ℕ). take n c.outcomes-outcomes.result.now) least ∙ take_min MAX_DETAILS c.outcomes-outcomes.result.now ∙ ap (take MAX_DETAILS) slice in
    record {
      number_is = refl;
      moment_is = refl;
      successes = subst (λ (os : List AddOutcome). AllZip (IsSuccess (c.args.library.now.rows ++ c.args.planned.now.rows)) os c.in_ok-successes.successes) first c.in_ok-successes.ensures;
      failures_are = refl;
      success_count = ap length slice;
      failure_count_is = refl;
    }
