use Rattle.alert_window.proofs.StayLemmas.{alert_is_row}
use Rattle.alert_window.proofs.laws.alerts_are_rows.Goals as goal

pub returns : goal.returns
returns c = alert_is_row
