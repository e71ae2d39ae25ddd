use Rattle.std.proofs.Common.{◌≡◌, ◌↔◌, ℕ, List, length}
use Rattle.std.specs.Prelude.{Some, slice_get}
use Rattle.hunt_engine.proofs.memo.ensure_length.Given as goal

abbrev pub invariant-loop : goal.invariant-loop
invariant-loop l = record {
  long : length l.roots.items ≡ l.counter;
  same : (root : ℕ) (positions : List ℕ) → slice_get l.roots.items root ≡ Some (Some positions) ↔ slice_get l.fn.roots.items root ≡ Some (Some positions);
}
