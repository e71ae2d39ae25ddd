-- What is added stands after left what was there.
use Rattle.std.proofs.Common.{rules, ◌≡◌, ℕ, List, ◌++◌, length, take, drop, sym, ◌∙◌, ap, subst}
use Rattle.std.proofs.Math.Seq.{drop-append_seam, take-append_seam}
use Rattle.std.specs.List.{Contains}
use Rattle.std.proofs.lemmas.List.Elements.{Contains-append_right}
use Rattle.match_bindings.specs.BindTree.{tree_of}
use Rattle.match_pruning.specs.inner.Numbers.{numbers}
use Rattle.match_pruning.proofs.RowNumbersLemmas.{contains_numbers}
use Rattle.match_pruning.proofs.greedy_completion.GreedyCompletion.add.Goals as goal

pub returns-clause-added : goal.returns-clause-added
returns-clause-added c = λ _ n h.
    let tree = tree_of c.args.bind.now in let old = c.args.self.now.numbers.items in let more = numbers tree in
    let all : c.deref.result.now ≡ old ++ more = c.deref.ensures.value ∙ c.in_ok-push_numbers.ensures in
    let new : Contains more n = (contains_numbers n tree).1 h in
    let place : c.len-before.result ≡ length old = search rules in
    let after_left : drop c.len-before.result c.deref.result.now ≡ more
    = ap (λ k. drop k c.deref.result.now) place ∙ ap (λ z. drop (length old) z) all ∙ drop-append_seam old more in
    let before : take c.len-before.result c.deref.result.now ≡ old
    = ap (λ k. take k c.deref.result.now) place ∙ ap (λ z. take (length old) z) all ∙ take-append_seam old more in (
      λ had. c.has_again.ensures c.if-has_again.false n (subst (λ (z : List ℕ). Contains z n) (sym after_left) new) (subst (λ (z : List ℕ). Contains z n) (sym before) had),
      subst (λ (z : List ℕ). Contains z n) (sym c.in_ok-push_numbers.ensures) (Contains-append_right old more n new),
    )
