use Rattle.taxii_rows.proofs.StateLemmas.{sound_with, sound_without}
use Rattle.taxii_rows.proofs.laws.sound_states.Goals as goal

pub returns-clause-added : goal.returns-clause-added
returns-clause-added c = sound_with

pub returns-clause-removed : goal.returns-clause-removed
returns-clause-removed c = sound_without
