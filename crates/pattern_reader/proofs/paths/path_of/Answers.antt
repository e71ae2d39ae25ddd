use Rattle.pattern_reader.proofs.OutcomeLemmas.{of_ok, of_err}
use Rattle.pattern_reader.proofs.PathLemmas.{path_outcome}
use Rattle.pattern_reader.proofs.paths.path_of.Goals as goal

pub returns-in-Ok : goal.returns-in-Ok
returns-in-Ok c = of_ok (λ h. h) (path_outcome _ _ _ _ _ c.in_ok-kind.ensures c.in_ok-steps.ensures c.in-Ok.ensures)

pub returns-in-Err : goal.returns-in-Err
returns-in-Err c = of_err (path_outcome _ _ _ _ _ c.in_ok-kind.ensures c.in_ok-steps.ensures c.in-Err.ensures)
