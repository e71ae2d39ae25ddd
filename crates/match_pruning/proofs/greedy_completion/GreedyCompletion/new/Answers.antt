-- A new thing alone.
use Rattle.std.proofs.Common.{ℕ, List, refl, sym, subst}
use Rattle.std.specs.List.{Contains}
use Rattle.match_bindings.specs.BindTree.{tree_of}
use Rattle.match_pruning.proofs.RowNumbersLemmas.{contains_numbers}
use Rattle.match_pruning.proofs.greedy_completion.GreedyCompletion.new.Goals as goal

pub returns : goal.returns
returns c =
    let tree = tree_of c.args.partial_match.now.bind in
    record {
      begins = refl;
      numbers = λ n h. subst (λ (z : List ℕ). Contains z n) (sym c.in_ok-numbers_of.ensures) ((contains_numbers n tree).1 h);
    }
