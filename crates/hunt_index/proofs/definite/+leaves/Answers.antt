use Rattle.std.proofs.Common.{◌≡◌, List, true, refl, sym, subst}
use Rattle.std.proofs.lemmas.Bool.{false≢true}
use Rattle.pattern_types.specs.declared.leaf.Leaf.{Leaf}
use Rattle.pattern_types.specs.PlainLeaf.{leaves_of_list}
use Rattle.match_comparisons.proofs.ContainsLemmas.{drop_next, drop_whole}
use Rattle.hunt_index.specs.Definite.{AreDefinite}
use Rattle.hunt_index.proofs.PartsLemmas.{definite_any, definite_at}
use Rattle.hunt_index.proofs.definite.+leaves.Goals as goal

pub are_definite-returns-then-not-is_definite : goal.are_definite-returns-then-not-is_definite
are_definite-returns-then-not-is_definite t c = (
  λ is. absurd (false≢true is),
  λ all.
      let e = c.is_definite.ensures.1 (definite_at c.args.parts.now c.loop-part.part-index c.part-item.result c.loop-part-test.true c.part-item.is all) in
      let f = c.if-not-is_definite.true in
      absurd (cc),
)

pub is_definite-returns-in-Any : goal.is_definite-returns-in-Any
is_definite-returns-in-Any t c = rw c.in-Any.is (definite_any c.are_definite.result c.in-Any.parts (rw c.as_slice.ensures at c.are_definite.ensures))

pub are_definite-loop-part-init : goal.are_definite-loop-part-init
are_definite-loop-part-init t c = λ all. all

pub are_definite-loop-part-preserved : goal.are_definite-loop-part-preserved
are_definite-loop-part-preserved t c = λ rest.
    let parts = c.args.parts.now in
    let i = c.loop-part.part-index in
    let part = c.part-item.result in
    let not = c.if-not-is_definite.false in
    let is : c.is_definite.result ≡ true = cc in
    c.loop-part.invariant (subst (λ (ls : List Leaf). AreDefinite (leaves_of_list ls)) (sym (drop_next parts i part c.loop-part-test.true c.part-item.is)) (c.is_definite.ensures.0 is, rest))

pub are_definite-returns : goal.are_definite-returns
are_definite-returns t c = (
  λ is. c.loop-part.invariant (subst (λ (ls : List Leaf). AreDefinite (leaves_of_list ls)) (sym (drop_whole c.args.parts.now c.loop-part.part-index c.loop-part-test.false)) tt),
  λ all. refl,
)
