use Rattle.std.proofs.Common.{sym, subst}
use Rattle.command_alerts.specs.Runs.{ReportsRefusals}
use Rattle.command_alerts.proofs.RunLemmas.{refusals-run}
use Rattle.command_alerts.proofs.run.run_alerts.Goals as goal

pub returns-clause-refusals : goal.returns-clause-refusals
returns-clause-refusals g c =
    subst (ReportsRefusals _) (sym c.finish.ensures.status) (refusals-run _ _ _ _ c.one_pattern.ensures c.execute-ending.ensures.end)
