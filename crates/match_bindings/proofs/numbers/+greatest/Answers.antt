-- A First or a Second has the numbers of its part.
use Rattle.std.proofs.Common.{rules, ◌≡◌, ◌∙◌, refl, sym}
use Rattle.std.specs.Rc.{rc_value}
use Rattle.match_bindings.specs.BindTree.{tree_of, greatest}
use Rattle.match_bindings.proofs.FirstsLemmas.{of_part, greatest_firsts}
use Rattle.match_bindings.proofs.numbers.+greatest.Goals as goal

pub greatest_number-returns-in-First : goal.greatest_number-returns-in-First
greatest_number-returns-in-First t c =
    let is : c.greatest_number-in-First.result ≡ greatest (tree_of (rc_value c.in-First.part)) = search rules in
    is ∙ sym (of_part greatest greatest_firsts (λ x. refl) c.args.bind.now c.in-First.part c.in-First.is)
