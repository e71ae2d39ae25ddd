use Rattle.pattern_reader.proofs.ConstantLemmas.{no_hex, no_time}
use Rattle.pattern_reader.proofs.constants.constant_of.Goals as goal

pub returns-in-None : goal.returns-in-None
returns-in-None c = no_time _ _ c.in-Timestamp.is c.in-None.ensures.none

pub returns-in-None-3 : goal.returns-in-None-3
returns-in-None-3 c = no_hex _ _ c.in-Hex.is (rw c.in-None-3.is at c.in_ok-bytes-in-Hex.ensures)
