use Rattle.std.proofs.Common.{◌≡◌, ◌-◌, IfSome}
use Rattle.taxii_rows.specs.declared.stored_row.TheConstants.{LAST_DATE}
use Rattle.taxii_store.proofs.LoadLemmas.{AreGood, IsReadTo}
use Rattle.taxii_store.proofs.load.read_rows.Given as goal

abbrev pub decreases-loop-rows : goal.decreases-loop-rows
decreases-loop-rows g l = LAST_DATE - l.after

abbrev pub invariant-loop-rows : goal.invariant-loop-rows
invariant-loop-rows g l =
    (g.K.Keeper.kept l.keeper ≡ g.K.Keeper.kept l.fn.keeper)
    × (g.K.Keeper.faults l.keeper ≡ g.K.Keeper.faults l.fn.keeper)
    × AreGood l.watermark l.after l.rows
    × IfSome (g.K.Keeper.kept l.fn.keeper).observable (λ state. IsReadTo state l.rows l.after)
