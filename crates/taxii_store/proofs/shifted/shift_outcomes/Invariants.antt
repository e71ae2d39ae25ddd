use Rattle.std.proofs.Common.{◌≡◌, ◌++◌, take, drop, map}
use Rattle.taxii_store.specs.inner.Moving.{shifted_outcome}
use Rattle.taxii_store.proofs.shifted.shift_outcomes.Given as goal

abbrev pub invariant-loop-outcome : goal.invariant-loop-outcome
invariant-loop-outcome l =
    l.outcome-items ≡ map (shifted_outcome l.watermark l.shift) (take l.outcome-index l.fn.outcomes.items) ++ drop l.outcome-index l.fn.outcomes.items
