use Rattle.taxii_bodies.proofs.TimesLemmas.{time_taken}
use Rattle.taxii_bodies.proofs.times.micros_text.Goals as goal

pub unwrap-text-requires : goal.unwrap-text-requires
unwrap-text-requires c = time_taken _ 6 _ _ _ _ c.from_utf8.ensures.cases c.write_micros-length.ensures.text
