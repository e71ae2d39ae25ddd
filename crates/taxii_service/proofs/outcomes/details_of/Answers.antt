use Rattle.std.proofs.Common.{◌≡◌, ℕ, suc, ◌+◌, List, [], ◌∷◌, ◌++◌, take, get_or, sym, ap, subst, ◌∙◌, arith}
use Rattle.std.specs.List.{AllZip}
use Rattle.std.proofs.Math.Seq.{take-suc}
use Rattle.taxii_store.specs.declared.add_outcome.AddOutcome.{AddOutcome}
use Rattle.taxii_service.specs.Adding.{IsSuccess}
use Rattle.taxii_service.proofs.RowLemmas.{zip_more}
use Rattle.taxii_service.proofs.outcomes.details_of.Goals as goal

pub loop-outcome-preserved : goal.loop-outcome-preserved
loop-outcome-preserved c =
    let R = IsSuccess (c.args.library.now.rows ++ c.args.planned.now.rows) in
    let outcomes = c.args.outcomes.now in
    let index = c.loop-outcome.outcome-index in
    let next : suc index ≡ index + 1 = omega arith in
    let longer = sym (ap (λ (n : ℕ). take n outcomes) (sym next) ∙ take-suc outcomes index _ c.loop-outcome-test.true) in
    subst (λ (os : List AddOutcome). AllZip R os c.push.new.self) longer
    (subst (AllZip R (take index outcomes ++ get_or outcomes index _ ∷ [])) (sym c.in_ok-push.ensures.ok)
    (zip_more R (take index outcomes) c.loop-outcome.details (get_or outcomes index _) c.in_ok-detail_of.field-0 c.loop-outcome.invariant c.in_ok-detail_of.ensures))
