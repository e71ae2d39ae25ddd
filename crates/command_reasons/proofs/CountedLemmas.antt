-- The causes of a call, where its failure is said in other words.
use Rattle.std.proofs.Common.{◌↔◌, ℕ}
use Rattle.flow_edges.specs.Faults.{Counted}

pub counted-when : {P Q : Type 0} {before now : ℕ} → (Q ↔ P) → Counted P before now → Counted Q before now
counted-when same it = record {
  later = it.later;
  failed = λ failed. it.failed (same.0 failed);
  quiet = λ fine. it.quiet (λ failed. fine (same.1 failed));
}
