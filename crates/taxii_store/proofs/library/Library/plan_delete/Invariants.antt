use Rattle.std.proofs.Common.{map, take}
use Rattle.taxii_store.proofs.DeleteLemmas.{AreTakenFrom}
use Rattle.taxii_store.proofs.library.Library.plan_delete.Given as goal

abbrev pub invariant-loop-row : goal.invariant-loop-row
invariant-loop-row l = AreTakenFrom l.self.rows l.collection l.id l.picks (take l.row-index (map (λ row. row.now) l.row-items)) l.dates
