use Rattle.std.proofs.Common.{◌≡◌, List, length, Err, rules, refl, sym, ◌∙◌, ap, arith, subst}
use Rattle.std.specs.Prelude.{map}
use Rattle.std.specs.List.Sorted.{IsSortedBy}
use Rattle.match_bindings.specs.declared.bind.Bind.{Bind}
use Rattle.match_bindings.specs.BindTree.{tree_of}
use Rattle.match_bindings.specs.Flat.{comes_before}
use Rattle.std.proofs.lemmas.List.{length-map}
use Rattle.match_bindings.specs.Once.{count}
use Rattle.match_pruning.specs.declared.stop.Stop.TheVariants as stop
use Rattle.match_pruning.specs.PartialMatchTree.{trees_in}
use Rattle.match_pruning.specs.inner.PartialMatches.{partial_match_tree}
use Rattle.match_pruning.specs.inner.Steps.{step_new}
use Rattle.match_stream.specs.inner.Nodes.{node_state}
use Rattle.match_pruning.proofs.NeededLemmas.{needed_all}
use Rattle.match_stream.proofs.run.Run.answer.Goals as goal

pub returns-in_err-new-clause-over_limit : goal.returns-in_err-new-clause-over_limit
returns-in_err-new-clause-over_limit c = λ e a.
    let row = c.args.row.now in let new = step_new row c.args.truths.now (node_state c.args.self.now.node) in
    let failed : c.step_alone.result ≡ Err stop.OverLimit = search rules in
    let over = c.step_alone.ensures.over_limit failed a in
    let all = ap length (needed_all row.last new) in
    omega (arith, over, all)

pub returns-in_err-take-clause-over_limit : goal.returns-in_err-take-clause-over_limit
returns-in_err-take-clause-over_limit c = λ e a.
    let row = c.args.row.now in let new = step_new row c.args.truths.now (node_state c.args.self.now.node) in
    let failed : c.take.result ≡ Err stop.OverLimit = search rules in
    let over = c.take.ensures.over_limit failed in
    let all = sym (length-map c.in_ok-new.new.items partial_match_tree) ∙ ap length (c.in_ok-new.ensures.new ∙ needed_all row.last new) in
    omega (arith, over, all, c.len.ensures, c.in_ok-new.ensures.counted)

pub returns-clause-took : goal.returns-clause-took
returns-clause-took c =
    let row = c.args.row.now in let new = step_new row c.args.truths.now (node_state c.args.self.now.node) in
    let all = sym (length-map c.in_ok-new.new.items partial_match_tree) ∙ ap length (c.in_ok-new.ensures.new ∙ needed_all row.last new) in
    record {
      rows = refl;
      last = refl;
      node = c.in_ok-new.ensures.kept;
      retained_limit = refl;
      budget = omega (arith, all, c.len.ensures, c.in_ok-new.ensures.counted, c.in_ok-take.ensures.taken);
    }

pub returns-clause-binds : goal.returns-clause-binds
returns-clause-binds c =
    let row = c.args.row.now in let new = step_new row c.args.truths.now (node_state c.args.self.now.node) in
    let same = c.in_ok-new.ensures.new ∙ needed_all row.last new in
    record {
      counts = λ x. ap (λ (y : List Bind). count x (map tree_of y)) c.from_vec.ensures ∙ c.in_ok-sorted.ensures.counts x ∙ ap (count x) (c.in_ok-binds.ensures ∙ ap trees_in same);
      sorted = subst (λ (y : List Bind). IsSortedBy comes_before (map tree_of y)) (sym c.from_vec.ensures) c.in_ok-sorted.ensures.ascends;
    }
