use Rattle.std.proofs.Common.{◌≡◌, ◌++◌, take, drop, map, nat_le}
use Rattle.taxii_index.specs.Hints.{forgotten}
use Rattle.taxii_index.proofs.hints.forget_rows_from.Given as goal

abbrev pub invariant-loop-hint : goal.invariant-loop-hint
invariant-loop-hint l =
    l.hint-items ≡ map (forgotten (λ other. nat_le l.date other)) (take l.hint-index l.fn.hints.items) ++ drop l.hint-index l.fn.hints.items
