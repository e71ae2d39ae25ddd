-- What is sorted has the same numbers.
use Rattle.std.proofs.Common.{List, ℕ, subst}
use Rattle.std.specs.List.{Contains}
use Rattle.std.proofs.lemmas.List.Sorted.{Contains-permutation, IsPermutation-sym}
use Rattle.match_bindings.specs.BindTree.{tree_of}
use Rattle.match_pruning.proofs.RetainsLemmas.{le_self}
use Rattle.match_pruning.proofs.RowNumbersLemmas.{contains_numbers}
use Rattle.match_pruning.proofs.key.SortKey.new.Goals as goal

pub returns-clause-candidate : goal.returns-clause-candidate
returns-clause-candidate c =
    let x = tree_of c.args.partial_match.now.bind in
    record {
      binds = λ n there. (contains_numbers n x).0
          (subst (λ (z : List ℕ). Contains z n) c.in_ok-numbers.ensures (Contains-permutation _ _ n (IsPermutation-sym _ _ c.sort_unstable.ensures.permutation) there));
      begins = le_self c.args.partial_match.now.earliest;
    }
