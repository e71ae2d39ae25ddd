use Rattle.taxii_index.proofs.hints.Hints.note.Goals as goal

pub returns : goal.returns
returns c = λ rows before are. c.note_earlier.ensures rows before (c.note_later.ensures rows before are)
