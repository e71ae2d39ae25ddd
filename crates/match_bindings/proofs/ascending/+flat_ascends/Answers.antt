-- Two runs of Firsts.
use Rattle.std.proofs.Common.{rules, ◌≡◌, arith}
use Rattle.std.specs.Prelude.{true}
use Rattle.std.specs.Rc.{rc_value}
use Rattle.match_bindings.specs.BindTree.{tree_of}
use Rattle.match_bindings.specs.inner.Ascending.{FlatAscends, is_second}
use Rattle.match_bindings.proofs.AscendingLemmas.{same_runs, longer_run}
use Rattle.match_bindings.proofs.ascending.+flat_ascends.Goals as goal

pub first_ascends-returns-then-more-others : goal.first_ascends-returns-then-more-others
first_ascends-returns-then-more-others t c = λ h.
    let part = tree_of c.args.part.now in let other = tree_of (rc_value c.in-First.other) in
    let ascends : FlatAscends part other = search rules in
    same_runs c.args.more c.in-First.others part c.args.second.now c.in-First.other c.in-First.is (omega (arith, c.if-more-others.true)) ascends

pub first_ascends-returns-then-more-others-2 : goal.first_ascends-returns-then-more-others-2
first_ascends-returns-then-more-others-2 t c = λ h.
    let second : is_second (tree_of (rc_value c.in-First.other)) ≡ true = search rules in
    longer_run c.args.more c.in-First.others (tree_of c.args.part.now) c.args.second.now c.in-First.other c.in-First.is (omega (arith, c.if-more-others-2.true)) second
