use Rattle.stix_json.specs.DataOf.{data_of}
use Rattle.hunt_report.proofs.AnswerLemmas.{ok_follows}
use Rattle.hunt_report.proofs.object.sighting_text.Goals as goal

pub returns : goal.returns
returns c =
    ok_follows c.write_json.result (λ text is. record { data_is = data_of c.in_ok-sighting.sighting; sighting = c.in_ok-sighting.ensures.sighting; written = is }) c.write_json.ensures.text
