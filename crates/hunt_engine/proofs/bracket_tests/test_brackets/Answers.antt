use Rattle.std.proofs.Common.{◌≡◌, ◌+◌, ◌++◌, ◌∷◌, [], ℕ, List, take, get_or, sym, ap, subst, ◌∙◌}
use Rattle.std.specs.Prelude.{Contains, Option, map}
use Rattle.stix_bundles.specs.Objects.{data_in}
use Rattle.pattern_types.specs.PlainLeaf.{plain_leaf}
use Rattle.match_comparisons.proofs.ContainsLemmas.{take_whole}
use Rattle.match_comparisons.proofs.RowsLemmas.{on_ok}
use Rattle.hunt_engine.specs.inner.Memos.{AddsPositions}
use Rattle.hunt_engine.specs.inner.RootBatches.{IsMetBracket, IsCertain, AddsMatching}
use Rattle.hunt_engine.proofs.RootBatchLemmas.{AskedSoFar, in_front, asked_none, adds_more, next_other, next_same, next_certain}
use Rattle.hunt_engine.proofs.bracket_tests.test_brackets.Goals as goal
use Rattle.hunt_engine.proofs.bracket_tests.test_brackets.Goals.{then-position-own+in_ok-test_bracket, else-position-own}

pub loop-position-init : goal.loop-position-init
loop-position-init c =
    asked_none (data_in c.args.bundle.now) (map plain_leaf (map (λ leaf. leaf.now) c.args.brackets.now.leaves.items)) 0 c.new-roots.result.items c.args.memo.now c.new-roots.ensures.items

pub test_bracket-requires-clause-certain : goal.test_bracket-requires-clause-certain
test_bracket-requires-clause-certain c =
    let objects = data_in c.args.bundle.now in
    let brackets = map plain_leaf (map (λ leaf. leaf.now) c.args.brackets.now.leaves.items) in
    let pairs = c.args.pairs.now in
    subst (λ (l : List ℕ). IsCertain objects brackets c.loop-position.own l) (sym c.as_slice.ensures.value)
    (next_certain objects brackets (take c.loop-position.position-index pairs) pairs c.loop-position.own c.loop-position.roots.items c.args.memo.now c.loop-position.memo c.loop-position.invariant
    (in_front c.loop-position.position-index pairs) c.requires.certain)

pub test_bracket-requires-2-clause-certain : goal.test_bracket-requires-2-clause-certain
test_bracket-requires-2-clause-certain c =
    let objects = data_in c.args.bundle.now in
    let brackets = map plain_leaf (map (λ leaf. leaf.now) c.args.brackets.now.leaves.items) in
    let pairs = c.args.pairs.now in
    subst (λ (l : List ℕ). IsCertain objects brackets c.loop-position.own l) (sym c.as_slice-2.ensures.value)
    (next_certain objects brackets (take c.loop-position.position-index pairs) pairs c.loop-position.own c.loop-position.roots.items c.args.memo.now c.loop-position.memo c.loop-position.invariant
    (in_front c.loop-position.position-index pairs) c.requires.certain)

pub loop-position-preserved : goal.loop-position-preserved
loop-position-preserved c =
    let objects = data_in c.args.bundle.now in
    let brackets = map plain_leaf (map (λ leaf. leaf.now) c.args.brackets.now.leaves.items) in
    let pairs = c.args.pairs.now in
    let i = c.loop-position.position-index in
    let own = c.loop-position.own in
    let roots = c.loop-position.roots.items in
    let root = (get_or pairs i (0, 0)).1 in
    elim c.if-position-own.branch [
      | then-position-own+in_ok-test_bracket w ↦
          subst (λ (memo : List (Option (List ℕ))). AskedSoFar objects brackets (take (i + 1) pairs) c.if-position-own.own c.push.new.self.items c.args.memo.now memo) (sym w.memo-is)
          (next_other objects brackets pairs i own roots c.args.memo.now c.loop-position-test.true c.if-position-own.own c.push.new.self.items c.loop-position.memo w.test_bracket.new.memo c.loop-position.invariant
          (subst (λ (l : List ℕ). AddsPositions (λ (root position : ℕ). (position ≡ own) × Contains l root × IsMetBracket objects brackets root own) c.loop-position.memo w.test_bracket.new.memo) w.as_slice.ensures.value w.in_ok-test_bracket.ensures)
          w.own-is (c.in_ok-push.ensures.items ∙ ap (λ (l : List ℕ). l ++ root ∷ []) (ap (λ v. v.items) w.roots-is ∙ w.clear.ensures.items)))
      | else-position-own w ↦
          subst (λ (memo : List (Option (List ℕ))). AskedSoFar objects brackets (take (i + 1) pairs) c.if-position-own.own c.push.new.self.items c.args.memo.now memo) (sym w.memo-is)
          (next_same objects brackets pairs i own roots c.args.memo.now c.loop-position-test.true c.if-position-own.own c.push.new.self.items c.loop-position.memo c.loop-position.invariant w.if-position-own.false
          w.own-is (c.in_ok-push.ensures.items ∙ ap (λ (l : List ℕ). l ++ root ∷ []) (ap (λ v. v.items) w.roots-is)))
    ]

pub returns : goal.returns
returns c =
    let objects = data_in c.args.bundle.now in
    let brackets = map plain_leaf (map (λ leaf. leaf.now) c.args.brackets.now.leaves.items) in
    let pairs = c.args.pairs.now in
    let own = c.loop-position.own in
    let far = c.loop-position.invariant in
    on_ok c.test_bracket-2.result (λ adds. subst (λ (l : List (ℕ × ℕ)). AddsMatching objects brackets l c.args.memo.now c.test_bracket-2.new.memo) (sym far.pairs_are ∙ take_whole pairs c.loop-position.position-index c.loop-position-test.false)
    (adds_more objects brackets far.asked own c.loop-position.roots.items c.args.memo.now c.loop-position.memo c.test_bracket-2.new.memo far.adds
    (subst (λ (l : List ℕ). AddsPositions (λ (root position : ℕ). (position ≡ own) × Contains l root × IsMetBracket objects brackets root own) c.loop-position.memo c.test_bracket-2.new.memo) c.as_slice-2.ensures.value adds))) c.test_bracket-2.ensures
