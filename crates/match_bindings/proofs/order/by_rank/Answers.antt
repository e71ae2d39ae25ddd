-- What is sorted by rank has the same trees, and ascends.
use Rattle.std.proofs.Common.{sym, ◌∙◌, ap, subst, rules, List}
use Rattle.std.specs.Ordering.{nat_cmp, is_lt}
use Rattle.std.specs.Cmp.Lexicographic.{slice_cmp}
use Rattle.std.specs.List.Sorted.{IsSortedBy}
use Rattle.std.proofs.lemmas.Cmp.{nat_list_cmp_total}
use Rattle.std.proofs.lemmas.List.MinMax.{ranks_by}
use Rattle.std.proofs.lemmas.List.Sorted.{answers_always, IsPermutation-map}
use Rattle.match_bindings.specs.declared.ranked.Ranked.{Ranked}
use Rattle.match_bindings.specs.BindTree.{BindTree, tree_of}
use Rattle.match_bindings.specs.Flat.{rank, comes_before}
use Rattle.match_bindings.specs.Once.{count}
use Rattle.match_bindings.proofs.SortedLemmas.{count_permuted, sorted_map}
use Rattle.match_bindings.proofs.order.by_rank.Goals as goal

pub returns-clause-counts : goal.returns-clause-counts
returns-clause-counts c x =
    ap (count x) c.in_ok-sorted.ensures
    ∙ count_permuted x _ _ (IsPermutation-map (λ r. tree_of r.bind) _ _ c.in_ok-sort_by.ensures.permutation)
    ∙ ap (count x) c.in_ok-all.ensures

pub returns-clause-ascends : goal.returns-clause-ascends
returns-clause-ascends c =
    let lt = λ (a : Ranked) (b : Ranked). is_lt (slice_cmp nat_cmp a.key.items b.key.items) in
    let up : IsSortedBy lt c.sort_by.new.self.items =
    c.in_ok-sort_by.ensures.sorted lt (ranks_by nat_list_cmp_total (λ (r : Ranked). r.key.items)) (answers_always _ _ _ (λ f a r g h. search rules)) in
    subst (λ (ts : List BindTree). IsSortedBy comes_before ts) (sym c.in_ok-sorted.ensures)
    (sorted_map (λ (r : Ranked). tree_of r.bind) lt comes_before
    (λ a b. ap (λ z. is_lt (slice_cmp nat_cmp z (rank (tree_of b.bind)))) (sym a.right) ∙ ap (λ z. is_lt (slice_cmp nat_cmp a.key.items z)) (sym b.right)) _ up)
