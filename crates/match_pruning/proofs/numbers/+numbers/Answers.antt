-- A First or a Second has the numbers of its part; and all binds are added.
use Rattle.std.proofs.Common.{rules, ◌≡◌, ◌++◌, ◌∙◌, sym, ap, arith}
use Rattle.std.specs.Rc.{rc_value}
use Rattle.match_bindings.specs.BindTree.{tree_of}
use Rattle.match_pruning.specs.inner.Numbers.{numbers}
use Rattle.match_pruning.proofs.RowNumbersLemmas.{push_all, numbers_of_part}
use Rattle.match_pruning.proofs.numbers.+numbers.Goals as goal

pub push_numbers-returns-in_ok-push_numbers-in-First : goal.push_numbers-returns-in_ok-push_numbers-in-First
push_numbers-returns-in_ok-push_numbers-in-First t c =
    let is : c.push_numbers-in-First.new.out.items ≡ c.args.out.now.items ++ numbers (tree_of (rc_value c.in-First.part)) = search rules in
    is ∙ ap (λ z. c.args.out.now.items ++ z) (sym (numbers_of_part c.args.bind.now c.in-First.part c.in-First.is))

pub push_all_numbers-returns : goal.push_all_numbers-returns
push_all_numbers-returns t c =
    push_all c.args.out.now.items c.loop-bind.out.items c.args.binds.now c.loop-bind.bind-index (omega arith) c.loop-bind.invariant
