-- What ascends all along is sorted.
use Rattle.std.proofs.Common.{refl, arith}
use Rattle.match_bindings.specs.declared.bind.Bind.{Bind}
use Rattle.match_bindings.specs.BindTree.{tree_of}
use Rattle.match_bindings.specs.Flat.{comes_before}
use Rattle.match_bindings.proofs.SortedLemmas.{sorted_map}
use Rattle.match_bindings.proofs.ascending.are_ascending.Goals as goal

pub returns : goal.returns
returns c = λ h.
    sorted_map tree_of (λ (a b : Bind). comes_before (tree_of a) (tree_of b)) comes_before (λ a b. refl) c.args.binds.now
    (λ k d low high. c.loop-at.invariant k d (omega (arith, c.loop-at-test.false, high)))
