use Rattle.taxii_bodies.proofs.TimesLemmas.{time_taken}
use Rattle.taxii_bodies.proofs.times.millis_text.Goals as goal

pub unwrap-text-requires : goal.unwrap-text-requires
unwrap-text-requires c = time_taken _ 3 _ _ _ _ c.from_utf8.ensures.cases c.write_millis-length.ensures.text
