use Rattle.std.proofs.Common.{ℕ, ◌<◌, ◌≤ℤ◌, length}
use Rattle.match_pruning.specs.declared.partial_match.PartialMatch.{PartialMatch}
use Rattle.match_pruning.specs.inner.Heaps.{IsChild, time_at}
use Rattle.match_pruning.proofs.heap.earliest_child.Given as goal

abbrev pub invariant-loop-child : goal.invariant-loop-child
invariant-loop-child l = record {
  is_child : IsChild l.at l.earliest;
  inside : l.earliest < length l.held;
  first : (d : PartialMatch) (i : ℕ) → IsChild l.at i → i < l.child → time_at l.held d l.earliest ≤ℤ time_at l.held d i;
}
