use Rattle.std.proofs.Common.{List, ℕ, length, sym, ap, subst, ◌∙◌}
use Rattle.std.proofs.lemmas.Bool.{eqb-true, eq-eqb}
use Rattle.stix_bundles.specs.Objects.{data_in}
use Rattle.pattern_types.specs.PlainLeaf.{plain_leaf}
use Rattle.match_comparisons.specs.Tests.{HoldsAt}
use Rattle.match_comparisons.specs.inner.Splits.{SplitsPositions}
use Rattle.match_comparisons.proofs.RowsLemmas.{some_held}
use Rattle.match_comparisons.proofs.leaf.leaf_holds.Goals as goal

pub returns : goal.returns
returns c =
    let objects = data_in c.args.bundle.now in
    let leaf = plain_leaf c.args.leaf.now in
    let split = c.in_ok-split.split in
    let held = c.as_slice-2.result.now in
    let splits = subst (λ (asked : List ℕ). SplitsPositions (λ (at : ℕ). HoldsAt objects at leaf) asked split) c.as_slice.ensures.value c.in_ok-split.ensures in
    some_held objects leaf c.args.observation.now.roots c.in_ok-roots.roots.items split splits c.in_ok-roots.ensures c.is_empty.result (
      λ yes. ap length (sym c.as_slice-2.ensures.value) ∙ eqb-true (length held) 0 (sym c.is_empty.ensures ∙ yes),
      λ none. c.is_empty.ensures ∙ eq-eqb (length held) 0 (ap length c.as_slice-2.ensures.value ∙ none),
    )
