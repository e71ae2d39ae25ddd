use Rattle.std.proofs.Common.{◌↔◌, List, ℕ, take, sym, subst}
use Rattle.std.specs.Prelude.{Contains}
use Rattle.stix_bundles.specs.declared.observation.Observation.{Observation}
use Rattle.match_comparisons.specs.inner.Roots.{IsSomeRoot}
use Rattle.match_comparisons.proofs.ContainsLemmas.{take_next, take_whole}
use Rattle.match_comparisons.proofs.RootsLemmas.{AreAdded, one_more_seen}
use Rattle.match_comparisons.proofs.roots.roots_of.Goals as goal

pub loop-observation-preserved : goal.loop-observation-preserved
loop-observation-preserved c =
    let i = c.loop-observation.observation-index in
    let observations = c.args.observations.now in
    let o = c.observation-item.result in
    let more = c.add_roots.new.roots.items in
    let added = subst (λ (own : List ℕ). AreAdded c.loop-observation.roots.items own more) c.as_slice.ensures c.in_ok-add_roots.ensures.added in (
      c.in_ok-add_roots.ensures.same,
      subst (λ (seen : List Observation). (at : ℕ) → Contains more at ↔ IsSomeRoot seen at)
          (sym (take_next observations i o c.loop-observation-test.true c.observation-item.is))
          (one_more_seen (take i observations) o c.loop-observation.roots.items more c.loop-observation.invariant.1 added),
    )

pub returns : goal.returns
returns c =
    subst (λ (seen : List Observation). (at : ℕ) → Contains c.loop-observation.roots.items at ↔ IsSomeRoot seen at)
    (take_whole c.args.observations.now c.loop-observation.observation-index c.loop-observation-test.false) c.loop-observation.invariant.1
