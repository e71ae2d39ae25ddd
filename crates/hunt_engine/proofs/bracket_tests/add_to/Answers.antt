use Rattle.std.proofs.Common.{◌≡◌, ℕ, List, subst}
use Rattle.std.specs.Prelude.{Contains}
use Rattle.match_comparisons.proofs.ContainsLemmas.{take_whole}
use Rattle.hunt_engine.specs.inner.Memos.{AddsPositions}
use Rattle.hunt_engine.proofs.MemoLemmas.{adds_next}
use Rattle.hunt_engine.proofs.bracket_tests.add_to.Goals as goal

pub loop-root-preserved : goal.loop-root-preserved
loop-root-preserved c =
    adds_next c.args.roots.now c.loop-root.root-index c.args.position c.args.memo.now c.loop-root.memo c.add_position.new.self c.loop-root-test.true c.loop-root.invariant c.in_ok-add_position.ensures

pub returns : goal.returns
returns c =
    subst (λ (l : List ℕ). AddsPositions (λ (root added : ℕ). (added ≡ c.args.position) × Contains l root) c.args.memo.now c.loop-root.memo)
    (take_whole c.args.roots.now c.loop-root.root-index c.loop-root-test.false) c.loop-root.invariant
