use Rattle.std.proofs.Common.{◌++◌, take}
use Rattle.std.specs.List.{AllZip}
use Rattle.taxii_service.specs.Adding.{IsSuccess}
use Rattle.taxii_service.proofs.outcomes.details_of.Given as goal

abbrev pub invariant-loop-outcome : goal.invariant-loop-outcome
invariant-loop-outcome l = AllZip (IsSuccess (l.library.rows ++ l.planned.rows)) (take l.outcome-index l.outcomes) l.details
