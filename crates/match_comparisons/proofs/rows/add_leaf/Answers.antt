use Rattle.std.proofs.Common.{◌↔◌, [], ◌∷◌, ◌++◌, List, ℕ, Bool, IsTrue, refl, sym, ap, ◌∙◌, subst, arith, length-set}
use Rattle.std.specs.Prelude.{Contains}
use Rattle.stix_bundles.specs.declared.observation.Observation.{Observation}
use Rattle.stix_bundles.specs.Objects.{data_in}
use Rattle.pattern_types.specs.PlainLeaf.{plain_leaf}
use Rattle.pattern_types.specs.PlainPattern.{a_leaf}
use Rattle.match_comparisons.specs.Tests.{LeafHolds}
use Rattle.match_comparisons.specs.Truths.{AreTruths}
use Rattle.match_comparisons.specs.inner.PositionSet.{AreOf}
use Rattle.match_comparisons.proofs.RowsLemmas.{HasSome, holds_some, row_more, rows_whole}
use Rattle.match_comparisons.proofs.rows.add_leaf.Goals as goal

pub loop-at-init : goal.loop-at-init
loop-at-init c = (tt, refl, c.requires.rows)

pub loop-at-preserved : goal.loop-at-preserved
loop-at-preserved c =
    let objects = data_in c.args.seen.now.bundle.now in
    let leaf = plain_leaf c.args.leaf.now in
    let observations = c.args.seen.now.observations.now in
    let i = c.loop-at.at in
    let o = c.index-seen-at.result in
    let row = c.index-rows-at.result in
    let truth = c.has_some.result in
    let held = c.in_ok-held.held in
    let before = c.loop-at.invariant in
    let same = subst (λ (l : List ℕ). AreOf l held) c.as_slice.ensures.value c.in_ok-held.ensures in
    let there : Contains observations o = (i, omega (arith, c.loop-at-test.true, c.requires.rows), sym c.index-seen-at.is) in
    let exact = holds_some objects leaf o.roots c.args.seen.now.roots.now c.in_ok-split.split held c.in_ok-split.ensures same
    (λ at has. (c.requires.roots at).1 (o, there, has)) in
    let roots = c.as_slice-in-loop-at.ensures ∙ ap (λ (it : Observation). it.roots) (sym c.index-seen-at.is) in
    let found = subst (λ (roots : List ℕ). IsTrue truth ↔ HasSome held roots) roots c.has_some.ensures in
    let tells : IsTrue truth ↔ LeafHolds objects o.roots leaf = (λ yes. exact.0 (found.0 yes), λ holds. found.1 (exact.1 holds)) in
    let pushed = c.in_ok-push.ensures.ok ∙ ap (λ (front : List Bool). front ++ truth ∷ []) (sym c.index-rows-at.is) in
    let more = row_more (λ (observation : Observation) (own : List Bool). AreTruths objects observation.roots (a_leaf leaf) own) observations c.args.rows.now c.loop-at.rows i o row c.push.new.self
    (omega (arith, c.loop-at-test.true, c.requires.rows)) c.loop-at-test.true (omega (arith, c.loop-at-test.true, c.loop-at.auto.rows)) c.index-seen-at.is c.index-rows-at.is
    before.1 before.0 (truth ∷ [], pushed, (truth, refl, tells)) in
    (more.0, more.1, length-set c.loop-at.rows i c.push.new.self ∙ before.2)

pub returns : goal.returns
returns c =
    let before = c.loop-at.invariant in
    rows_whole (λ (observation : Observation) (own : List Bool). AreTruths (data_in c.args.seen.now.bundle.now) observation.roots (a_leaf (plain_leaf c.args.leaf.now)) own)
    c.args.seen.now.observations.now c.args.rows.now c.loop-at.rows c.loop-at.at (omega (arith, c.loop-at-test.false, c.requires.rows)) c.loop-at-test.false
    (omega (arith, c.loop-at-test.false, c.loop-at.auto.rows)) before.0
