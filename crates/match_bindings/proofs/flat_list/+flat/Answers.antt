-- The letters of a First or a Second and then its part; and all binds are added.
use Rattle.std.proofs.Common.{rules, ◌≡◌, ◌+◌, ◌++◌, [], ◌∷◌, ◌∙◌, ap, arith}
use Rattle.std.specs.Prelude.{replicate}
use Rattle.std.specs.Rc.{rc_value}
use Rattle.match_bindings.specs.BindTree.{tree_of}
use Rattle.match_bindings.specs.Flat.{flat}
use Rattle.match_bindings.proofs.BindTreeLemmas.{tree_second}
use Rattle.match_bindings.proofs.FirstsLemmas.{flat_first}
use Rattle.match_bindings.proofs.ListLemmas.{added_twice}
use Rattle.match_bindings.proofs.ManyLemmas.{push_all, many_flats}
use Rattle.match_bindings.proofs.flat_list.+flat.Goals as goal

pub push_flat-returns-in_ok-push_flat-in-First : goal.push_flat-returns-in_ok-push_flat-in-First
push_flat-returns-in_ok-push_flat-in-First t c =
    let part = c.in-First.part in
    let zeros : c.push_zeros.new.out.items ≡ c.args.out.now.items ++ replicate (c.in-First.more + 1) 0 = search rules in
    let rest : c.push_flat-in-First.new.out.items ≡ c.push_zeros.new.out.items ++ flat (tree_of (rc_value part)) = search rules in
    added_twice _ _ _ _ _ _ zeros rest (ap (λ b. flat (tree_of b)) c.in-First.is ∙ flat_first c.in-First.more part)

pub push_flat-returns-in_ok-push_flat-in-Second : goal.push_flat-returns-in_ok-push_flat-in-Second
push_flat-returns-in_ok-push_flat-in-Second t c =
    let part = c.in-Second.part in
    let letter : c.push-in-Second.new.self.items ≡ c.args.out.now.items ++ 18446744073709551615 ∷ [] = search rules in
    let rest : c.push_flat-in-Second.new.out.items ≡ c.push-in-Second.new.self.items ++ flat (tree_of (rc_value part)) = search rules in
    added_twice _ _ _ _ _ _ letter rest (ap (λ b. flat (tree_of b)) c.in-Second.is ∙ ap flat (tree_second part))

pub push_flats-returns : goal.push_flats-returns
push_flats-returns t c =
    push_all flat many_flats c.args.out.now.items c.loop-bind.out.items c.args.binds.now c.loop-bind.bind-index (omega arith) c.loop-bind.invariant
