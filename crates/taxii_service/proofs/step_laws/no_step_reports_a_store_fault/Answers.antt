use Rattle.taxii_service.proofs.StepAnswerLemmas.{step_no_fault}
use Rattle.taxii_service.proofs.step_laws.no_step_reports_a_store_fault.Goals as goal

pub returns : goal.returns
returns c config before moment request answer after step = step_no_fault config before moment request answer after step
