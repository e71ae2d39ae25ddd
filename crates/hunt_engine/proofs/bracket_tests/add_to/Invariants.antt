use Rattle.std.proofs.Common.{◌≡◌, ℕ, take}
use Rattle.std.specs.Prelude.{Contains}
use Rattle.hunt_engine.specs.inner.Memos.{AddsPositions}
use Rattle.hunt_engine.proofs.bracket_tests.add_to.Given as goal

abbrev pub invariant-loop-root : goal.invariant-loop-root
invariant-loop-root l = AddsPositions (λ (root added : ℕ). (added ≡ l.position) × Contains (take l.root-index l.roots) root) l.fn.memo l.memo
