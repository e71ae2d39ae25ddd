-- A First or a Second has the numbers of its part.
use Rattle.std.proofs.Common.{rules, ◌≡◌, ◌∙◌, refl, sym}
use Rattle.std.specs.Rc.{rc_value}
use Rattle.match_bindings.specs.BindTree.{tree_of, has}
use Rattle.match_bindings.proofs.FirstsLemmas.{of_part, has_firsts}
use Rattle.match_bindings.proofs.numbers.+has.Goals as goal

pub has_number-returns-in-First : goal.has_number-returns-in-First
has_number-returns-in-First t c =
    let is : c.has_number-in-First.result ≡ (has c.args.number) (tree_of (rc_value c.in-First.part)) = search rules in
    is ∙ sym (of_part (has c.args.number) (has_firsts c.args.number) (λ x. refl) c.args.bind.now c.in-First.part c.in-First.is)
