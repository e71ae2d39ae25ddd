-- A new thing alone.
use Rattle.std.proofs.Common.{List, sym, subst}
use Rattle.match_bindings.specs.BindTree.{tree_of}
use Rattle.match_pruning.specs.declared.matching.Neighbors.{Neighbors}
use Rattle.match_pruning.specs.inner.Picks.{HasPerfectMatching}
use Rattle.match_pruning.proofs.RetainsLemmas.{le_self}
use Rattle.match_pruning.proofs.PicksLemmas.{none_picked}
use Rattle.match_pruning.proofs.completion_bound.CompletionBound.new.Goals as goal

pub returns : goal.returns
returns c =
    let x = tree_of c.args.partial_match.now.bind in
    record {
      has_partial_match = λ n h. h;
      bound = le_self c.args.partial_match.now.earliest;
      picks = λ e. subst (λ (z : List Neighbors). HasPerfectMatching z x) (sym c.new.ensures) (none_picked x);
    }
