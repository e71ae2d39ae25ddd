-- Each root in turn.
use Rattle.std.proofs.Common.{◌≡◌, ℕ, List, length, get_or, arith, sym, subst}
use Rattle.std.specs.Prelude.{Option, map}
use Rattle.std.proofs.lemmas.List.Sorted.{Contains-permutation, IsPermutation-sym, IsNonDecreasingBy-from_sort}
use Rattle.stix_bundles.specs.Objects.{data_in}
use Rattle.pattern_types.specs.PlainLeaf.{plain_leaf}
use Rattle.hunt_engine.specs.Memo.{IsSoundMemo}
use Rattle.hunt_engine.specs.inner.Evaluation.{MarkedSoFar, MarksMore}
use Rattle.hunt_engine.proofs.PositionLemmas.{get_number}
use Rattle.hunt_engine.proofs.EvaluateLemmas.{in_order, marked_more, marks_matching}
use Rattle.hunt_engine.proofs.evaluation.mark_matching.Goals as goal

pub loop-root-preserved : goal.loop-root-preserved
loop-root-preserved c =
    let leaves = map plain_leaf (map (λ leaf. leaf.now) c.args.brackets.now.leaves.items) in
    let objects = data_in c.args.bundle.now in
    let roots = c.args.roots.now in
    let i = c.loop-root.root-index in
    let root = get_or roots i 0 in
    let memo = c.in_ok-memoize.ensures.memo in
    let own = c.positions_at.ensures memo.0 memo.1 in
    let matching = c.in_ok-memoize.ensures.right root memo.0 memo.1 in
    let more = subst (λ (l : List ℕ). MarksMore l (length l) c.loop-root.marks c.loop-root.positions.items c.mark_more.new.marks c.mark_more.new.positions.items) own c.in_ok-mark_more.ensures in
    record {
      right = subst (λ (l : List (Option (List ℕ))). IsSoundMemo objects leaves l) (sym c.pass.ensures) c.in_ok-memoize.ensures.right;
      marked = marked_more objects roots leaves i c.loop-root.marks c.loop-root.positions.items c.mark_more.new.marks c.mark_more.new.positions.items memo.0 root
          c.loop-root.invariant.marked (get_number roots i (omega arith)) matching more;
    }

pub returns-clause-marks : goal.returns-clause-marks
returns-clause-marks c =
    let leaves = map plain_leaf (map (λ leaf. leaf.now) c.args.brackets.now.leaves.items) in
    let objects = data_in c.args.bundle.now in
    let roots = c.args.roots.now in
    let positions = c.loop-root.positions.items in
    let sorted = c.sort_unstable.new.self.items in
    let moved = c.sort_unstable.ensures.permutation in
    let all : c.loop-root.root-index ≡ length roots = omega arith in
    marks_matching objects roots leaves c.loop-root.marks positions sorted
    (subst (λ (i : ℕ). MarkedSoFar objects roots leaves i c.loop-root.marks positions) all c.loop-root.invariant.marked)
    (λ at. (λ has. Contains-permutation _ _ at (IsPermutation-sym _ _ moved) has, λ has. Contains-permutation _ _ at moved has))
    (in_order sorted (IsNonDecreasingBy-from_sort (λ (n : ℕ). n) sorted c.sort_unstable.ensures.sorted))
