use Rattle.alert_window.proofs.StayLemmas.{alert_stays}
use Rattle.alert_window.proofs.laws.alerts_persist.Goals as goal

pub returns : goal.returns
returns c = alert_stays
