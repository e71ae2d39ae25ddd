-- A block that a query passes, and the levels that are left.
use Rattle.std.proofs.Common.{ℕ, ◌≤◌, List, ◌∷◌, [], subst, sym}
use Rattle.std.specs.Prelude.{slice_index_or}
use Rattle.std.specs.List.{Contains}
use Rattle.std.proofs.lemmas.List.Elements.{Contains-append_left, Contains-push}
use Rattle.match_pruning.specs.declared.block.Blocks.{Blocks}
use Rattle.match_pruning.specs.inner.SkipIndexes.{HasCommon}
use Rattle.match_pruning.proofs.SkipIndexLemmas.{common_over}
use Rattle.match_pruning.proofs.skip_index.SkipIndex.passed.Goals as goal

pub levels-init : goal.levels-init
levels-init c = λ blocks there. c.requires.levels blocks (subst (λ (z : List Blocks). Contains z blocks) c.as_slice-levels.ensures.value there)

pub returns-then-excludes : goal.returns-then-excludes
returns-then-excludes c = λ _.
    let largest = c.in-Some.largest.now in let smaller = c.in-Some.smaller.now in let block = c.in-Some-at.block.now in
    let told = c.in-Some-at.ensures in
    let there = subst (λ (z : List Blocks). Contains z largest) (sym c.in-Some.ensures.cases.0) (Contains-push smaller largest) in
    let is = c.levels.invariant largest there block told.0 in (
      is.within,
      λ k d low high. λ second common.
          c.excludes.ensures c.if-excludes.true second
          (subst (λ (z : List ℕ). HasCommon z block.begin second) (sym c.deref.ensures.value)
          (common_over block (slice_index_or c.args.self.now.keys.items k d) second (is.over k d (subst (λ i. i ≤ k) (sym told.1) low) high) common)),
    )

pub levels-preserved-else-excludes : goal.levels-preserved-else-excludes
levels-preserved-else-excludes c = λ blocks there.
    c.levels.invariant blocks
    (subst (λ (z : List Blocks). Contains z blocks) (sym c.in-Some.ensures.cases.0) (Contains-append_left c.in-Some.smaller.now (c.in-Some.largest.now ∷ []) blocks there))

pub levels-preserved : goal.levels-preserved
levels-preserved c = λ blocks there.
    c.levels.invariant blocks
    (subst (λ (z : List Blocks). Contains z blocks) (sym c.in-Some.ensures.cases.0) (Contains-append_left c.in-Some.smaller.now (c.in-Some.largest.now ∷ []) blocks there))
