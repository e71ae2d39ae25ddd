use Rattle.std.proofs.Common.{◌≡◌, ◌++◌, take, drop, map}
use Rattle.taxii_index.specs.Hints.{forgotten}
use Rattle.taxii_rows.specs.Keeper.{is_date_in}
use Rattle.taxii_index.proofs.hints.forget_rows.Given as goal

abbrev pub invariant-loop-hint : goal.invariant-loop-hint
invariant-loop-hint l =
    l.hint-items ≡ map (forgotten (is_date_in l.dates)) (take l.hint-index l.fn.hints.items) ++ drop l.hint-index l.fn.hints.items
