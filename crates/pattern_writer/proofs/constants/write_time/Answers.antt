use Rattle.pattern_writer.proofs.TimesLemmas.{utf8_time, read_back}
use Rattle.pattern_writer.proofs.constants.write_time.Goals as goal

pub unwrap-time-requires : goal.unwrap-time-requires
unwrap-time-requires c = read_back _ _ _ _ c.from_utf8.ensures.cases (utf8_time _ _ c.write-length.ensures.text)
