-- One number more, which isn't one of the first ones.
use Rattle.std.proofs.Common.{◌≡◌, ℕ, List, get_or, take, sym, ◌∙◌, ap, subst, arith, inl, inr}
use Rattle.std.specs.Prelude.{true, false, nat_eq}
use Rattle.std.specs.List.{Contains}
use Rattle.std.proofs.lemmas.Cmp.{nat_eq_equiv}
use Rattle.std.proofs.lemmas.List.{take_all, take_more}
use Rattle.std.proofs.lemmas.List.Elements.{Contains-push_cases}
use Rattle.match_pruning.proofs.numbers.share_number.Goals as goal

pub loop-number-preserved : goal.loop-number-preserved
loop-number-preserved c = λ n in_more in_first.
    let others = c.args.others.now in let numbers = c.args.numbers.now in let i = c.loop-number.number-index in
    elim (Contains-push_cases (take i others) (get_or others i 0) n (subst (λ (z : List ℕ). Contains z n) (take_more others i 0 c.loop-number-test.true) in_more)) [
      | inl old ↦ c.loop-number.invariant n old in_first
      | inr is ↦ absurd (
          let told = c.if-contains.ensures.cases in_first.0 n (omega arith) in_first.1 in
          let e : false ≡ true = sym told ∙ ap (λ (y : ℕ). nat_eq y (get_or others i 0)) (in_first.2 ∙ sym is) ∙ nat_eq_equiv.refl (get_or others i 0) in cc)
    ]

pub returns-clause-none : goal.returns-clause-none
returns-clause-none c = λ _ n there.
    c.loop-number.invariant n (subst (λ (z : List ℕ). Contains z n) (sym (take_all c.loop-number.number-index c.args.others.now c.loop-number-test.false)) there)
