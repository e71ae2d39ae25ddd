use Rattle.hunt_report.proofs.AnswerLemmas.{on_follows}
use Rattle.hunt_report.proofs.fields.Fields.add_version.Goals as goal

pub returns : goal.returns
returns c = on_follows c.add_text.result (λ is. record { text = c.in_ok-text.text; fact = c.in_ok-text.ensures; is = is }) c.add_text.ensures
