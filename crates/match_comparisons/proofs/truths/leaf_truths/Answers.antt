use Rattle.std.proofs.Common.{◌≡◌, ◌↔◌, List, [], ℕ, Bool, map, sym, ap, subst, ◌∙◌, take_all}
use Rattle.std.specs.Prelude.{Contains}
use Rattle.stix_bundles.specs.declared.observation.Observation.{Observation}
use Rattle.stix_bundles.specs.Objects.{data_in}
use Rattle.pattern_types.specs.PlainPattern.{plain_pattern}
use Rattle.match_comparisons.specs.Truths.{AreTruths, AreTruthsOfEach}
use Rattle.match_comparisons.specs.inner.Roots.{IsSomeRoot}
use Rattle.match_comparisons.specs.inner.Rows.{AddsTruths}
use Rattle.match_comparisons.proofs.RowsLemmas.{each_alone, whole_front}
use Rattle.match_comparisons.proofs.truths.leaf_truths.Goals as goal

pub add_truths-requires-clause-roots : goal.add_truths-requires-clause-roots
add_truths-requires-clause-roots c =
    subst (λ (l : List ℕ). (at : ℕ) → Contains l at ↔ IsSomeRoot c.args.observations.now at) (sym c.as_slice.ensures.value) c.in_ok-roots.ensures

pub returns : goal.returns
returns c =
    let objects = data_in c.args.bundle.now in
    let observations = c.args.observations.now in
    let pattern = plain_pattern c.args.pattern.now in
    let none : c.as_mut_slice.result.now ≡ map (λ (_ : Observation). []) observations = c.as_mut_slice.ensures.value ∙ c.loop.invariant ∙ ap (map (λ (_ : Observation). [])) (take_all c.loop.index observations c.loop-test.false) in
    let adds = subst (λ (olds : List (List Bool)). AddsTruths objects pattern observations olds c.add_truths.new.rows) none c.in_ok-add_truths.ensures in
    let same = c.from_vec.ensures ∙ whole_front _ c.add_truths.new.rows _ (sym c.as_mut_slice.ensures.len ∙ sym c.add_truths.auto.rows) in
    subst (AreTruthsOfEach objects observations pattern) (sym same) (each_alone (λ (observation : Observation) (own : List Bool). AreTruths objects observation.roots pattern own) observations c.add_truths.new.rows adds)
