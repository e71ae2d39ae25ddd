use Rattle.stix_times.proofs.WholeLemmas.{millis_whole, is_whole}
use Rattle.stix_times.proofs.laws.millis_are_whole.Goals as goal

pub returns : goal.returns
returns c = λ text instant named. let micros = millis_whole text instant named in is_whole micros.0 instant micros.1
