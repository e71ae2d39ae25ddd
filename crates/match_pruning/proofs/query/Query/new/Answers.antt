use Rattle.std.proofs.Common.{List, ℕ, subst, refl}
use Rattle.std.specs.List.{Contains}
use Rattle.match_bindings.specs.BindTree.{tree_of}
use Rattle.match_pruning.proofs.RowNumbersLemmas.{contains_numbers}
use Rattle.match_pruning.proofs.query.Query.new.Goals as goal

pub returns : goal.returns
returns c =
    let x = tree_of c.args.first.now.bind in
    record {
      join = refl;
      earliest_start = refl;
      binds = λ n there. (contains_numbers n x).0 (subst (λ (z : List ℕ). Contains z n) c.in_ok-numbers_of.ensures there);
      ends = refl;
    }
