-- The places that were found, in order.
use Rattle.std.proofs.Common.{ℕ, ◌<◌, length, subst, inl, inr}
use Rattle.std.specs.Prelude.{slice_index_or}
use Rattle.std.specs.List.{Contains}
use Rattle.std.proofs.lemmas.List.Sorted.{Contains-permutation, IsPermutation-sym, IsNonDecreasingBy-from_sort}
use Rattle.match_pruning.specs.inner.PartialMatches.{partial_match_tree}
use Rattle.match_pruning.specs.inner.SkipIndexes.{HasCommon}
use Rattle.match_pruning.proofs.SkipIndexLemmas.{vain_told}
use Rattle.match_pruning.proofs.skip_index.SkipIndex.places.Goals as goal

pub returns : goal.returns
returns c = λ candidates keys.
    let moved = c.sort_unstable.ensures.permutation in
    let first = partial_match_tree c.args.first.now in
    record {
      sift_up = IsNonDecreasingBy-from_sort (λ (x : ℕ). x) _ c.sort_unstable.ensures.sorted;
      within = λ place there.
          let from = c.in_ok-places.ensures.from place (Contains-permutation _ _ place (IsPermutation-sym _ _ moved) there) in
          subst (λ i. i < length candidates) from.2 (keys.each from.0 from.1).0;
      others = λ place h.
          let found = keys.all place h in let key = found.0 in
          elim (c.in_ok-places.ensures.others key found.1) [
            | inl there ↦ inl (subst (Contains c.sort_unstable.new.self.items) found.2 (Contains-permutation _ _ key.place moved there))
            | inr passed ↦ inr (λ d.
                let candidate = partial_match_tree (slice_index_or candidates place d) in
                let common : HasCommon key.numbers.items key.begin candidate
                = subst (λ i. HasCommon key.numbers.items key.begin (partial_match_tree (slice_index_or candidates i d))) found.2 ((keys.each key found.1).1 d) in
                vain_told c.args.join c.args.earliest_start.now.start first candidate c.in_ok-query.query c.in_ok-query.ensures (passed candidate common))
          ];
    }
