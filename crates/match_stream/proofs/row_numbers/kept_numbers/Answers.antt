-- What is sorted and without doubles has the same numbers.
use Rattle.std.proofs.Common.{◌++◌, ◌∙◌, sym, ap, subst, List, ℕ}
use Rattle.std.specs.List.{Contains}
use Rattle.std.proofs.lemmas.List.Filters.{dedup_is}
use Rattle.std.proofs.lemmas.List.Kept.{Contains-dedup_nat, Contains-from_dedup}
use Rattle.std.proofs.lemmas.List.Sorted.{Contains-permutation, IsPermutation-sym}
use Rattle.std.proofs.lemmas.Map.Keys.{IsStrictlyIncreasing-dedup}
use Rattle.match_pruning.specs.inner.Steps.{contents_of}
use Rattle.match_stream.specs.inner.Nodes.{node_state}
use Rattle.match_pruning.specs.inner.Numbers.{all_numbers}
use Rattle.match_pruning.proofs.RowNumbersLemmas.{contains_kept}
use Rattle.match_stream.proofs.row_numbers.kept_numbers.Goals as goal

pub returns : goal.returns
returns c =
    let contents = contents_of (node_state c.args.node.now) in
    let is = dedup_is _ _ _ c.dedup.ensures.filtered in
    let moved = c.sort_unstable.ensures.permutation in
    let all = c.in_ok-push_node.ensures ∙ ap (λ (z : List ℕ). z ++ all_numbers contents) c.new-kept.ensures.items in
    record {
      ascends = rw is (IsStrictlyIncreasing-dedup _ c.sort_unstable.ensures.sorted);
      each = λ n. (
        λ h. (contains_kept n contents).0
            (subst (λ (xs : List ℕ). Contains xs n) all (Contains-permutation _ _ n (IsPermutation-sym _ _ moved) (Contains-from_dedup _ _ n (rw is at h)))),
        λ h. rw is (Contains-dedup_nat _ n (Contains-permutation _ _ n moved (subst (λ (xs : List ℕ). Contains xs n) (sym all) ((contains_kept n contents).1 h)))),
      );
    }
