use Rattle.std.proofs.Common.{arith, ◌≡◌, ℕ, ◌≤◌, ◌∙◌, List, length, ap, sym, subst}
use Rattle.std.specs.Prelude.{Contains}
use Rattle.std.proofs.lemmas.Bool.{false≢true}
use Rattle.pattern_types.specs.declared.constant.Constant.{Constant}
use Rattle.pattern_types.specs.declared.check.Check.{Check}
use Rattle.pattern_types.specs.declared.path.Step.{Step}
use Rattle.match_comparisons.specs.Tests.{MeetsCheck, last_property}
use Rattle.hunt_index.specs.declared.key.Key.TheVariants.{Any}
use Rattle.hunt_index.specs.inner.Keys.{FitsKey}
use Rattle.hunt_index.specs.Definite.{ArePlain}
use Rattle.hunt_index.specs.declared.key.Key.{Key}
use Rattle.hunt_index.specs.inner.IndexKeys.{HasIndexKey, AreBy, KeyRepresents, AnswersSome}
use Rattle.hunt_index.proofs.ListLemmas.{ok_follows}
use Rattle.hunt_index.proofs.IndexKeyLemmas.{front_index_keys, value_index_keys, whole_front, weaker, equal_sufficient, among_sufficient}
use Rattle.hunt_index.proofs.key_selection.index_keys_of_test.Goals as goal

pub returns-then-front-steps-clause-needed : goal.returns-then-front-steps-clause-needed
returns-then-front-steps-clause-needed c =
    let front = c.plain_prefix-front.result.now in
    let rest = c.plain_prefix-front.ensures.front in
    ok_follows c.one_index_key-then-front-steps.result
    (λ index_keys has. front_index_keys c.args.test.now c.if-test.false front rest.0 index_keys (sym c.as_slice-steps.ensures ∙ rest.1) c.plain_prefix-front.ensures.plain
    (subst (λ (kind : List ℕ). HasIndexKey kind front (λ own. own ≡ Any) index_keys) c.as_str-kind.ensures has)) c.one_index_key-then-front-steps.ensures.has

pub returns-in-Differ-clause-needed : goal.returns-in-Differ-clause-needed
returns-in-Differ-clause-needed c =
    let front = c.plain_prefix-front.result.now in
    let rest = c.plain_prefix-front.ensures.front in
    ok_follows c.one_index_key-in-Differ.result
    (λ index_keys has. front_index_keys c.args.test.now c.if-test.false front rest.0 index_keys (sym c.as_slice-steps.ensures ∙ rest.1) c.plain_prefix-front.ensures.plain
    (subst (λ (kind : List ℕ). HasIndexKey kind front (λ own. own ≡ Any) index_keys) c.as_str-kind.ensures has)) c.one_index_key-in-Differ.ensures.has

pub returns-in-Among-clause-needed : goal.returns-in-Among-clause-needed
returns-in-Among-clause-needed c =
    let test = c.args.test.now in
    let front = c.plain_prefix-front.result.now in
    let rest = c.plain_prefix-front.ensures.front in
    let long = subst (λ (steps : List Step). length steps ≤ length front) c.as_slice-steps.ensures c.if-front-steps.false in
    let whole = whole_front test.path.steps front rest.0 (sym c.as_slice-steps.ensures ∙ rest.1) long in
    ok_follows c.index_keys_by_value.result
    (λ index_keys all. value_index_keys test c.if-test.false front index_keys whole c.plain_prefix-front.ensures.plain
    (λ value meets.
    let some = subst (λ (check : Check). MeetsCheck (last_property test.path) value check) c.in-Among.is meets in
    let has = all some.0 (subst (λ (l : List Constant). Contains l some.0) (sym c.as_slice.ensures) some.1) in
    weaker test.path.kind front (KeyRepresents some.0) (λ own. FitsKey own value) index_keys (λ own stands. stands (last_property test.path) value some.2)
    (subst (λ (kind : List ℕ). HasIndexKey kind front (KeyRepresents some.0) index_keys) c.as_str-kind.ensures has))) c.index_keys_by_value.ensures.has

pub returns-in-Equal-clause-sufficient : goal.returns-in-Equal-clause-sufficient
returns-in-Equal-clause-sufficient c =
    let test = c.args.test.now in
    let front = c.plain_prefix-front.result.now in
    let own = c.key_of.result in
    ok_follows c.one_index_key-in-Equal.result
    (λ index_keys by definite.
    let whole : test.path.steps ≡ front =
    sym c.as_slice-steps.ensures ∙ sym (c.plain_prefix-front.ensures.whole (subst ArePlain (sym c.as_slice-steps.ensures) definite.plain)) in
    equal_sufficient test definite c.in-Equal.constant own front index_keys c.in-Equal.is whole c.key_of.ensures.answers
    (subst (λ (kind : List ℕ). AreBy kind front (λ (k : Key). k ≡ own) index_keys) c.as_str-kind.ensures by)) c.one_index_key-in-Equal.ensures.by

pub returns-in-Among-clause-sufficient : goal.returns-in-Among-clause-sufficient
returns-in-Among-clause-sufficient c =
    let test = c.args.test.now in
    let front = c.plain_prefix-front.result.now in
    ok_follows c.index_keys_by_value.result
    (λ index_keys by definite.
    let whole : test.path.steps ≡ front =
    sym c.as_slice-steps.ensures ∙ sym (c.plain_prefix-front.ensures.whole (subst ArePlain (sym c.as_slice-steps.ensures) definite.plain)) in
    among_sufficient test definite c.in-Among.constants front index_keys c.in-Among.is whole
    (subst (λ (l : List Constant). AreBy test.path.kind front (AnswersSome l) index_keys) c.as_slice.ensures
    (subst (λ (kind : List ℕ). AreBy kind front (AnswersSome c.as_slice.result.now) index_keys) c.as_str-kind.ensures by))) c.index_keys_by_value.ensures.by

pub returns-then-test-clause-sufficient : goal.returns-then-test-clause-sufficient
returns-then-test-clause-sufficient c =
    ok_follows c.one_index_key.result (λ index_keys by definite. absurd (false≢true (sym definite.asked ∙ c.if-test.true))) c.one_index_key.ensures.by

pub returns-then-front-steps-clause-sufficient : goal.returns-then-front-steps-clause-sufficient
returns-then-front-steps-clause-sufficient c =
    ok_follows c.one_index_key-then-front-steps.result
    (λ index_keys by definite.
    let whole = ap length (c.plain_prefix-front.ensures.whole (subst ArePlain (sym c.as_slice-steps.ensures) definite.plain)) in
    absurd (omega (arith, whole, c.if-front-steps.true))) c.one_index_key-then-front-steps.ensures.by

pub returns-in-Equal-clause-needed : goal.returns-in-Equal-clause-needed
returns-in-Equal-clause-needed c =
    let test = c.args.test.now in
    let front = c.plain_prefix-front.result.now in
    let rest = c.plain_prefix-front.ensures.front in
    let own = c.key_of.result in
    let long = subst (λ (steps : List Step). length steps ≤ length front) c.as_slice-steps.ensures c.if-front-steps.false in
    let whole = whole_front test.path.steps front rest.0 (sym c.as_slice-steps.ensures ∙ rest.1) long in
    ok_follows c.one_index_key-in-Equal.result
    (λ index_keys has. value_index_keys test c.if-test.false front index_keys whole c.plain_prefix-front.ensures.plain
    (λ value meets.
    let equal = subst (λ (check : Check). MeetsCheck (last_property test.path) value check) c.in-Equal.is meets in
    weaker test.path.kind front (λ (k : Key). k ≡ own) (λ k. FitsKey k value) index_keys
    (λ k is. subst (λ (k : Key). FitsKey k value) (sym is) (c.key_of.ensures.stands (last_property test.path) value equal))
    (subst (λ (kind : List ℕ). HasIndexKey kind front (λ (k : Key). k ≡ own) index_keys) c.as_str-kind.ensures has))) c.one_index_key-in-Equal.ensures.has
