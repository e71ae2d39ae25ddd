-- A First or a Second has the numbers of its part.
use Rattle.std.proofs.Common.{rules, ◌≡◌, ◌∙◌, refl, sym}
use Rattle.std.specs.Rc.{rc_value}
use Rattle.match_bindings.specs.BindTree.{BindTree, tree_of, disjoint}
use Rattle.match_bindings.proofs.FirstsLemmas.{of_part, disjoint_firsts}
use Rattle.match_bindings.proofs.numbers.+disjoint.Goals as goal

pub are_disjoint-returns-in-First : goal.are_disjoint-returns-in-First
are_disjoint-returns-in-First t c =
    let other = tree_of c.args.other.now in
    let is : c.are_disjoint-in-First.result ≡ disjoint (tree_of (rc_value c.in-First.part)) other = search rules in
    is ∙ sym (of_part (λ (x : BindTree). disjoint x other) (disjoint_firsts other) (λ x. refl) c.args.bind.now c.in-First.part c.in-First.is)
