use Rattle.std.proofs.Common.{subst, sym}
use Rattle.std.specs.Prelude.{nat_eq}
use Rattle.std.specs.List.{IsDistinct}
use Rattle.match_bindings.specs.BindTree.{BindTree, tree_of}
use Rattle.match_pruning.specs.inner.Numbers.{numbers}
use Rattle.match_pruning.proofs.PicksLemmas.{once_joined}
use Rattle.match_pruning.proofs.join.Join.joined.Goals as goal

pub invariant_of-result-clause-once : goal.invariant_of-result-clause-once
invariant_of-result-clause-once c =
    subst (λ (t : BindTree). IsDistinct nat_eq (numbers t)) (sym c.in_ok-bind.ensures)
    (once_joined c.args.self (tree_of c.args.first.now.bind) (tree_of c.args.second.now.bind) c.args.first.now.once c.args.second.now.once c.requires)
