-- The first choice, and the others.
use Rattle.std.proofs.Common.{◌≡◌, ℕ, List, ◌++◌, sym, subst}
use Rattle.std.specs.List.{Contains}
use Rattle.std.proofs.lemmas.List.Elements.{Contains-append_left, Contains-append_right}
use Rattle.match_pruning.proofs.PicksLemmas.{none_among, among_others, among_all}
use Rattle.match_pruning.proofs.matching.+push_tried.Goals as goal

pub returns-in_default-split_first-clause-picked : goal.returns-in_default-split_first-clause-picked
returns-in_default-split_first-clause-picked t c = λ x picks differ each. none_among c.args.numbers.now.items picks

pub returns-then-not-is-clause-picked : goal.returns-then-not-is-clause-picked
returns-then-not-is-clause-picked t c = λ x picks differ each.
    among_others x c.args.matching.now c.in-Some.others.now c.in-Some.neighbors.now picks c.in_ok-count.count c.push_tried.new.numbers.items c.in-Some.ensures.cases.0
    differ each (c.in_ok-count.ensures.picked x)

pub returns-clause-kept : goal.returns-clause-kept
returns-clause-kept t c = λ n there.
    let old = c.push_tried.new.numbers.items in
    subst (λ (z : List ℕ). Contains z n) (sym c.in_ok-extend_from_slice.ensures.items) (Contains-append_left old c.deref.result.now n (c.in_ok-count.ensures.kept n there))

pub returns-clause-picked : goal.returns-clause-picked
returns-clause-picked t c = λ x picks differ each.
    let old = c.push_tried.new.numbers.items in let new = c.extend_from_slice.new.self.items in
    let more : new ≡ old ++ c.deref.result.now = c.in_ok-extend_from_slice.ensures.items in
    among_all x c.args.matching.now c.in-Some.others.now c.in-Some.neighbors.now picks c.in_ok-count.count old new c.in-Some.ensures.cases.0
    differ each (c.in_ok-count.ensures.picked x)
    (λ n there. subst (λ (z : List ℕ). Contains z n) (sym more) (Contains-append_left old c.deref.result.now n there))
    (λ n there. subst (λ (z : List ℕ). Contains z n) (sym more) (Contains-append_right old c.deref.result.now n
    (subst (λ (z : List ℕ). Contains z n) (sym c.deref.ensures.value) there)))
