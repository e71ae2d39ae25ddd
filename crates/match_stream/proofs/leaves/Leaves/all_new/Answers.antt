-- One leaf after another.
use Rattle.std.proofs.Common.{◌≡◌, ◌+◌, ◌-◌, [], ◌∷◌, sym, ◌∙◌, ap, arith, append-nil}
use Rattle.std.specs.Prelude.{map}
use Rattle.match_bindings.specs.BindTree.{firsts}
use Rattle.match_pruning.specs.inner.PartialMatches.{partial_match_trees}
use Rattle.match_pruning.specs.inner.Steps.{held_with, row_alone, leaves_state, step_new}
use Rattle.match_stream.proofs.LeavesLemmas.{leaf_holds, leaf_off, made_more, made_all}
use Rattle.match_stream.proofs.leaves.Leaves.all_new.Goals as goal
use Rattle.match_stream.proofs.leaves.Leaves.all_new.Goals.{then-holds-2+in_ok-push_second, else-holds-2}

pub loop-at-preserved : goal.loop-at-preserved
loop-at-preserved c =
    let s = c.args.self.now in let row = c.args.row.now in let truths = c.args.truths.now in let at = c.loop-at.at in
    let made = partial_match_trees c.loop-at.new.items in let before = c.loop-at.invariant.1 in let inside = c.loop-at-test.true in
    let told = sym c.holds-in-loop-at.ensures in
    let new : partial_match_trees c.if-holds-2.new.items ≡ map (held_with (firsts (s.more - (at + 1)))) (step_new row truths (leaves_state s.first (at + 1) s.window))
    = elim c.if-holds-2.branch [
      | then-holds-2+in_ok-push_second w ↦
          made_more row truths s.first at s.more s.window made (partial_match_trees c.if-holds-2.new.items) (row_alone row ∷ []) inside before
          (leaf_holds row truths (s.first + at + 1) s.window (told ∙ w.if-holds-2.true) c.requires.retained)
          (ap (λ v. partial_match_trees v.items) w.new-is ∙ w.in_ok-push_second.ensures)
      | else-holds-2 w ↦
          made_more row truths s.first at s.more s.window made (partial_match_trees c.if-holds-2.new.items) [] inside before
          (leaf_off row truths (s.first + at + 1) s.window (told ∙ w.if-holds-2.false))
          (ap (λ v. partial_match_trees v.items) w.new-is ∙ sym (append-nil made))
    ] in
    (omega (arith, inside), new)

pub returns : goal.returns
returns c =
    let s = c.args.self.now in
    let all : c.loop-at.at ≡ s.more = omega (arith, c.loop-at-test.false, c.loop-at.invariant.0) in
    made_all c.args.row.now c.args.truths.now s.first c.loop-at.at s.more s.window (partial_match_trees c.loop-at.new.items) all c.loop-at.invariant.1
