use Rattle.std.proofs.Common.{arith, rules, refl, ◌∙◌, ◌↔◌, List, ◌∷◌, length, sym, ap, subst}
use Rattle.std.proofs.lemmas.Bool.{false≢true}
use Rattle.serde_json.specs.Data.{Data}
use Rattle.stix_json.specs.declared.value.Json.{Json}
use Rattle.stix_json.specs.DataOf.{data_of}
use Rattle.stix_bundles.specs.Objects.{data_in}
use Rattle.pattern_types.specs.declared.path.Step.{Step}
use Rattle.match_comparisons.specs.inner.Search.{borrowed_name, Finds, FindsAt, AreLastSteps}
use Rattle.match_comparisons.proofs.FoundLemmas.{none_next, none_at_all}
use Rattle.match_comparisons.proofs.SearchLemmas.{ok_same, finds_here, finds_next, finds_there, last_rest, one_more, known_right, ordered_tree, some_tree}
use Rattle.match_comparisons.proofs.search.+search.Goals as goal

pub finds-returns-in_default-clause-found : goal.finds-returns-in_default-clause-found
finds-returns-in_default-clause-found t c =
    ok_same c.meets_unless_negated.result (finds_here c.args.search.now (borrowed_name c.args.last) (data_of c.args.value.now) c.args.steps.now c.in_default.ensures.cases) c.meets_unless_negated.ensures

pub finds-returns-in-Some-referred-clause-found : goal.finds-returns-in-Some-referred-clause-found
finds-returns-in-Some-referred-clause-found t c =
    let search = c.args.search.now in
    let last = borrowed_name c.args.last in
    let value = data_of c.args.value.now in
    let here = c.in-Some-referred.ensures c.in-Some.rest.now in
    ok_same c.finds_at.result
    (subst (λ (steps : List Step). FindsAt search (c.in-Some.step.now ∷ c.in-Some.rest.now) c.in-Some-referred.at ↔ Finds search last steps value)
    (sym c.in-Some.ensures.cases.0) (here.1, here.0)) c.finds_at.ensures.found

pub finds-some_finds-requires : goal.finds-some_finds-requires
finds-some_finds-requires t c =
    let before = c.requires.before in
    let rest = last_rest c.args.search.now c.in-Some.step.now c.in-Some.rest.now (subst (AreLastSteps c.args.search.now) c.in-Some.ensures.cases.0 before.last) in
    (omega (arith, ap length c.in-Some.ensures.cases.0), (record { sound = before.sound; last = rest; right = before.right }, c.selected-values.ensures.ordered))

pub finds-returns-clause-found : goal.finds-returns-clause-found
finds-returns-clause-found t c =
    ok_same c.some_finds.result
    (finds_next c.args.search.now (borrowed_name c.args.last) (data_of c.args.value.now) c.args.steps.now c.in-Some.step.now c.in-Some.rest.now _ (data_in c.selected-values.result.now)
    c.in-Some.ensures.cases.0 c.name_after.ensures c.selected-values.ensures.reached) c.some_finds.ensures.found

pub finds_at-some_finds-requires : goal.finds_at-some_finds-requires
finds_at-some_finds-requires t c =
    let rest = last_rest c.args.search.now c.args.step.now c.args.rest.now c.requires.last in
    (omega arith, (record { sound = c.requires.sound; last = rest; right = c.requires.right }, c.selected-values.ensures.ordered))

pub finds_at-returns-in_ok-add-clause-right : goal.finds_at-returns-in_ok-add-clause-right
finds_at-returns-in_ok-add-clause-right t c =
    let sought = c.args.search.now in
    let step = c.args.step.now in
    let rest = c.args.rest.now in
    let there = finds_there sought step rest c.args.at (data_of c.in-Some-object_at.object.now) _ (data_in c.selected-values.result.now) (sym c.in-Some-object_at.ensures.value) c.name_after.ensures c.selected-values.ensures.reached in
    one_more sought c.some_finds.new.memo c.add.new.self step rest c.args.at c.in_ok-found.found c.in_ok-found.ensures.right c.requires.last
    (λ yes. there.0 (c.in_ok-found.ensures.found.0 yes), λ finds. c.in_ok-found.ensures.found.1 (there.1 finds)) c.in_ok-add.ensures.positive c.in_ok-add.ensures.negative

pub some_finds-finds-requires : goal.some_finds-finds-requires
some_finds-finds-requires t c =
    let ordered = ordered_tree c.args.values.now c.loop-value.value-index c.value-item.result c.loop-value-test.true c.value-item.is c.requires.ordered in
    (omega arith, (record { sound = c.requires.before.sound; last = c.requires.before.last; right = c.loop-value.invariant.0 }, ordered))

pub some_finds-returns-then-branch-clause-found : goal.some_finds-returns-then-branch-clause-found
some_finds-returns-then-branch-clause-found t c =
    let trees = c.args.values.now in
    let P = λ (d : Data). Finds c.args.search.now (borrowed_name c.args.last) c.args.steps.now d in
    let finds = c.in_ok-finds.ensures.found.0 c.if-branch.true in
    (λ yes. (some_tree P trees).0 (c.value-item.result, (c.loop-value.value-index, c.loop-value-test.true, sym c.value-item.is), finds), λ some. refl)

pub some_finds-loop-value-preserved : goal.some_finds-loop-value-preserved
some_finds-loop-value-preserved t c =
    let P = λ (tree : Json). Finds c.args.search.now (borrowed_name c.args.last) c.args.steps.now (data_of tree) in
    let other = λ (finds : P c.value-item.result). false≢true (sym c.if-branch.false ∙ c.in_ok-finds.ensures.found.1 finds) in
    (c.in_ok-finds.ensures.right, none_next P c.args.values.now c.loop-value.value-index c.value-item.result c.loop-value-test.true c.value-item.is c.loop-value.invariant.1 other)

pub some_finds-returns-clause-found : goal.some_finds-returns-clause-found
some_finds-returns-clause-found t c =
    let trees = c.args.values.now in
    let P = λ (d : Data). Finds c.args.search.now (borrowed_name c.args.last) c.args.steps.now d in
    let none = none_at_all (λ (tree : Json). P (data_of tree)) trees c.loop-value.value-index c.loop-value-test.false c.loop-value.invariant.1 in
    (λ yes. absurd (false≢true yes), λ some. absurd (none ((some_tree P trees).1 some)))

pub finds_at-returns-in-Some-clause-found : goal.finds_at-returns-in-Some-clause-found
finds_at-returns-in-Some-clause-found t c =
    known_right c.args.search.now c.args.memo.now c.args.step.now c.args.rest.now c.args.at c.in-Some.found c.requires.right c.requires.last
    (λ yes. c.in-Some.ensures.positive (search rules)) (λ no. c.in-Some.ensures.negative (search rules))
