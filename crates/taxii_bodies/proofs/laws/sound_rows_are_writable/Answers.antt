use Rattle.taxii_bodies.proofs.WritableLemmas.{writable, all_writable}
use Rattle.taxii_bodies.proofs.laws.sound_rows_are_writable.Goals as goal

pub returns : goal.returns
returns c = record { row = writable; state = all_writable }
